use Rattle.blaze_streams.proofs.Words.{◌≡◌, ◌++◌, shown_ranges}
use Rattle.blaze_streams.proofs.merge.list_of.list_of.Given as goal

-- what was taken, and what is left, are all
abbrev pub invariant-loop-item : goal.invariant-loop-item
invariant-loop-item g l =
    shown_ranges g.T.Integer.rank g.VC.ValueCarrier.shown l.items.items ++ g.I.SortedDisjointMap.left l.item-iterator ≡ g.I.SortedDisjointMap.left l.fn.stream
