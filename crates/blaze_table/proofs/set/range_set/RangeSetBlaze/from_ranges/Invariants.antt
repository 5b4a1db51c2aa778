use Rattle.blaze_table.proofs.Words.{◌≡◌, shown_list, shown_bare_ranges}
use Rattle.blaze_table.proofs.set.range_set.RangeSetBlaze.from_ranges.Given as goal

-- the pairs are the ranges so far
abbrev pub invariant-loop-range : goal.invariant-loop-range
invariant-loop-range g l = shown_list g.T.Integer.rank l.pairs.items ≡ shown_bare_ranges g.T.Integer.rank l.yielded
