use Rattle.std.proofs.Common.{◌≡◌, ◌++◌, map, drop}
use Rattle.blaze_streams.specs.Ranges.{shown_range}
use Rattle.range_map_c.specs.Tables.{rows}
use Rattle.range_map_c.proofs.handle.bulk.pairs_of.Given as goal

-- the rows so far, and those from here on, are all rows
abbrev pub invariant-loop-i : goal.invariant-loop-i
invariant-loop-i l = map (shown_range (λ k. k) (λ v. v)) l.table.items ++ rows (drop l.i l.lo) (drop l.i l.hi) (drop l.i l.value) ≡ rows l.lo l.hi l.value
