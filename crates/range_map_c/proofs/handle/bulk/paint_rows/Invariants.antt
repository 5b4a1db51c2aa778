use Rattle.std.proofs.Common.{take}
use Rattle.range_map_c.specs.Handle.{least_key, greatest_key}
use Rattle.range_map_c.specs.Tables.{rows, AreRowsPainted}
use Rattle.range_map_c.proofs.handle.bulk.paint_rows.Given as goal

-- the rows so far are painted
abbrev pub invariant-loop-i : goal.invariant-loop-i
invariant-loop-i l = AreRowsPainted least_key greatest_key (rows (take l.i l.lo) (take l.i l.hi) (take l.i l.value)) l.initial.map.entries l.map.entries
