use Rattle.blaze_streams.proofs.Words.{◌≡◌, ◌++◌, shown_option, filled_entries, rank_or_end, shown_ranges}
use Rattle.blaze_streams.proofs.fills.fill.Given as goal

-- the filled ranges so far and those of the remaining ranges are all ranges
abbrev pub invariant-loop-item : goal.invariant-loop-item
invariant-loop-item g l =
    shown_ranges g.T.Integer.rank (shown_option g.VC.ValueCarrier.shown) l.out.items ++ filled_entries (rank_or_end g.T.Integer.rank g.T.Integer.high l.next) g.T.Integer.high (g.S.SortedDisjointMap.left l.item-iterator)
    ≡ filled_entries g.T.Integer.low g.T.Integer.high (g.S.SortedDisjointMap.left l.fn.stream)
