use Rattle.blaze_streams.proofs.Words.{◌+◌, shown_pair, shown_ranges}
use Rattle.blaze_streams.proofs.CarriedJoins.{IsCarriedSoFar}
use Rattle.blaze_streams.proofs.LengthsLeft.{lengths_left}
use Rattle.blaze_streams.proofs.segmenting.joins.join_of.Given as goal

abbrev pub invariant-loop-start : goal.invariant-loop-start
invariant-loop-start g l =
    IsCarriedSoFar g.VCL.ValueCarrier.is_carried g.VCR.ValueCarrier.is_carried g.VCL.Value.PartialEq.eq g.VCR.Value.PartialEq.eq g.T.Integer.low g.T.Integer.high l.kind (g.L.SortedDisjointMap.left l.fn.left) (g.R.SortedDisjointMap.left l.fn.right)
    l.left l.right (shown_ranges g.T.Integer.rank (shown_pair g.VCL.ValueCarrier.shown g.VCR.ValueCarrier.shown) l.out.items)

abbrev pub decreases-loop-start : goal.decreases-loop-start
decreases-loop-start g l = lengths_left l.left + lengths_left l.right
