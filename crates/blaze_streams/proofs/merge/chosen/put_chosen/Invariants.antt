use Rattle.blaze_streams.proofs.Words.{◌+◌}
use Rattle.blaze_streams.proofs.ChosenSoFar.{IsChosenSoFar}
use Rattle.blaze_streams.proofs.LengthsLeft.{lengths_left}
use Rattle.blaze_streams.proofs.merge.chosen.put_chosen.Given as goal

abbrev pub invariant-loop-right : goal.invariant-loop-right
invariant-loop-right g l =
    IsChosenSoFar g.VCL.Value.PartialEq.eq g.T.Integer.low g.T.Integer.high g.C.Choice.choice (g.L.SortedDisjointMap.left l.fn.left) (g.R.SortedDisjointMap.left l.fn.right)
    l.left l.right (g.P.PieceList.entries l.out)

abbrev pub decreases-loop-right : goal.decreases-loop-right
decreases-loop-right g l = lengths_left l.left + lengths_left l.right
