use Rattle.blaze_streams.proofs.Words.{◌≡◌, ◌++◌, shown_bare_ranges, gaps, rank_or_end}
use Rattle.blaze_streams.proofs.complements.complement.Given as goal

-- the gaps so far and those of the remaining ranges are all gaps
abbrev pub invariant-loop-range : goal.invariant-loop-range
invariant-loop-range g l =
    shown_bare_ranges g.T.Integer.rank l.gaps.items ++ gaps (rank_or_end g.T.Integer.rank g.T.Integer.high l.next) g.T.Integer.high (g.S.SortedDisjoint.left l.range-iterator)
    ≡ gaps g.T.Integer.low g.T.Integer.high (g.S.SortedDisjoint.left l.fn.set)
