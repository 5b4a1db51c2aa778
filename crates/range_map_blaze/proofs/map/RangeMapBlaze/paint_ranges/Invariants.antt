use Rattle.range_map_blaze.proofs.Words.{◌≡◌, ◌++◌, List, Entry, IsCounted, ArePaintedInTurn}
use Rattle.range_map_blaze.proofs.map.RangeMapBlaze.paint_ranges.Given as goal

-- the ranges that were taken are painted
abbrev pub invariant-loop-range : goal.invariant-loop-range
invariant-loop-range g l =
    (done : List (Entry g.row.V.Denot))
    × (g.S.SortedDisjointMap.left l.fn.ranges ≡ done ++ g.S.SortedDisjointMap.left l.range-iterator)
    × ArePaintedInTurn g.V.PartialEq.eq g.T.Integer.low g.T.Integer.high done l.fn.self.entries l.self.entries
    × IsCounted l.fn.self l.self
