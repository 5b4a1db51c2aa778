use Rattle.range_map_blaze.proofs.Words.{◌≡◌, ◌++◌, List, left_alone, IsChosen, Entry}
use Rattle.range_map_blaze.proofs.operators.cut.cut_ranges.Given as goal

-- the table lacks the keys of the ranges that were taken, and the others are left
abbrev pub invariant-loop-range : goal.invariant-loop-range
invariant-loop-range g l =
    (done : List (Entry (Unit {0})))
    × (g.S.SortedDisjoint.left l.fn.ranges ≡ done ++ g.S.SortedDisjoint.left l.range-iterator)
    × IsChosen g.V.PartialEq.eq g.T.Integer.low g.T.Integer.high left_alone l.fn.map.entries done l.table.entries
