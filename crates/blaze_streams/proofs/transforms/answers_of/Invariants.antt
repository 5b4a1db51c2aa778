use Rattle.blaze_streams.proofs.Words.{shown_ranges}
use Rattle.blaze_streams.proofs.Answering.{IsAnsweredSoFar}
use Rattle.blaze_streams.proofs.transforms.answers_of.Given as goal

abbrev pub invariant-loop-item : goal.invariant-loop-item
invariant-loop-item g l =
    IsAnsweredSoFar g.C.Asks.shows g.C.Asks.calls g.VC.Value.PartialEq.eq g.W.PartialEq.eq g.T.Integer.low g.T.Integer.high l.initial.f
    (g.S.SortedDisjointMap.left l.fn.stream) (g.S.SortedDisjointMap.left l.item-iterator) l.f (shown_ranges g.T.Integer.rank (λ o. o.0) l.out.items)
