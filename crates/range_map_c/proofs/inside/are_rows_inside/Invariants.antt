use Rattle.std.proofs.Common.{nat_eq, take}
use Rattle.range_map_blaze.specs.Extended.{AreInside}
use Rattle.range_map_c.specs.Tables.{rows}
use Rattle.range_map_c.proofs.inside.are_rows_inside.Given as goal

-- the rows so far are inside
abbrev pub invariant-loop-i : goal.invariant-loop-i
invariant-loop-i l = AreInside nat_eq (rows (take l.i l.lo) (take l.i l.hi) (take l.i l.value)) l.map.entries
