use Rattle.range_map_blaze.proofs.Words.{◌≡◌, ◌++◌, List, Entry, ArePaintedInTurn}
use Rattle.range_map_blaze.proofs.operators.union.painted_over.Given as goal

-- the ranges that were taken are painted
abbrev pub invariant-loop-range : goal.invariant-loop-range
invariant-loop-range g l =
    (goal.iterator-loop-range g).can_next l.ranges × (goal.iterator-loop-range g).is_finite l.ranges
    × ((done : List (Entry g.row.V.Denot))
    × (g.S.SortedDisjointMap.left l.fn.right ≡ done ++ g.S.SortedDisjointMap.left l.ranges)
    × ArePaintedInTurn g.V.PartialEq.eq g.T.Integer.low g.T.Integer.high done l.fn.left.entries l.map.entries)
