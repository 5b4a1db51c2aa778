use Rattle.blaze_streams.proofs.Words.{MatchOption-at_none, MatchOption-at_some}
use Rattle.blaze_streams.proofs.ChosenSoFar.{chosen_none, chosen_more, chosen_all}
use Rattle.blaze_streams.proofs.Fewer.{step_less}
use Rattle.blaze_streams.proofs.merge.chosen.put_chosen.Goals as goal

pub loop-right-init : goal.loop-right-init
loop-right-init g c =
    rw (c.new-left.ensures, c.new-right.ensures, c.requires.empty)
    (chosen_none g.VCL.Value.PartialEq.eq g.met.VCL.Value.Eq.laws g.T.Integer.low g.T.Integer.high g.C.Choice.choice (g.L.SortedDisjointMap.left c.args.left) (g.R.SortedDisjointMap.left c.args.right))

pub loop-right-smaller : goal.loop-right-smaller
loop-right-smaller g c =
    step_less g.VCL.Value.PartialEq.eq g.VCR.Value.PartialEq.eq g.VCL.Value.PartialEq.eq g.C.Choice.choice
    c.loop-right.left c.take.new.left c.loop-right.right c.take.new.right _ _ _ c.take.ensures.left c.take.ensures.right (MatchOption-at_some _ _ _ c.in-Some.is c.in_ok-piece.ensures.taken)

pub loop-right-preserved : goal.loop-right-preserved
loop-right-preserved g c =
    chosen_more g.VCL.Value.PartialEq.eq g.met.VCL.Value.Eq.laws g.T.Integer.low g.T.Integer.high g.C.Choice.choice g.VCL.Value.PartialEq.eq g.VCR.Value.PartialEq.eq g.met.C.Choice.from_nothing
    (g.L.SortedDisjointMap.left c.args.left) c.loop-right.left c.take.new.left (g.R.SortedDisjointMap.left c.args.right) c.loop-right.right c.take.new.right
    (g.P.PieceList.entries c.loop-right.out) (g.P.PieceList.entries c.put_piece.new.out) _ _ _ c.take.ensures.left c.take.ensures.right
    (MatchOption-at_some _ _ _ c.in-Some.is c.in_ok-piece.ensures.taken) c.put_piece.ensures.from c.put_piece.ensures.to c.in_ok-put_piece.ensures.put c.loop-right.invariant

pub returns : goal.returns
returns g c =
    chosen_all g.VCL.Value.PartialEq.eq g.met.VCL.Value.Eq.laws g.T.Integer.low g.T.Integer.high g.C.Choice.choice _ c.loop-right.left _ c.loop-right.right _ c.loop-right.invariant
    (MatchOption-at_none _ _ c.in_default.is c.in_ok-piece.ensures.taken)
