use Rattle.std.proofs.Common.{◌≡◌, ◌*◌, ◌^◌, ◌-◌, ◌≤◌, pos, length, take}
use Rattle.blaze_entries.specs.Overlap.{covered_keys}
use Rattle.range_map_c.specs.Tables.{rows}
use Rattle.range_map_c.proofs.table_counts.range_table_count_within_unchecked.Given as goal

-- the keys of the rows before `row` are counted
abbrev pub invariant-loop-row : goal.invariant-loop-row
invariant-loop-row l =
    (pos l.count ≡ covered_keys l.first l.last (take l.row (rows l.lo l.hi l.value)))
    × (l.count ≤ l.row * 2 ^ 64) × (l.row ≤ length l.lo)

abbrev pub decreases-loop-row : goal.decreases-loop-row
decreases-loop-row l = length l.lo - l.row
