use Rattle.range_map_blaze.proofs.Words.{◌≡◌, ◌++◌, shown_bare_ranges}
use Rattle.range_map_blaze.proofs.operators.set_of.set_of.Given as goal

-- what was taken, and what is left, are all
abbrev pub invariant-loop-range : goal.invariant-loop-range
invariant-loop-range g l =
    shown_bare_ranges g.T.Integer.rank l.ranges.items ++ g.S.SortedDisjoint.left l.range-iterator ≡ g.S.SortedDisjoint.left l.fn.stream
