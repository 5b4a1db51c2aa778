use Rattle.range_map_multi.proofs.Words.{ℤ, drop, map, at, SameOption, row, with_all}
use Rattle.range_map_multi.proofs.borrowed_intersections.part_on_all.Given as goal

-- the list on the keys that the maps that are left have is what is wanted
abbrev pub invariant-loop-map : goal.invariant-loop-map
invariant-loop-map g l = (k : ℤ) → SameOption g.V.PartialEq.eq (with_all (at l.shared k) (row (map g.M.AsMap.shown (drop l.map-index l.maps)) k)) (with_all (at l.fn.list k) (row (map g.M.AsMap.shown l.maps) k))
