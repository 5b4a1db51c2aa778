use Rattle.blaze_streams.proofs.Words.{IfOk-weaker}
use Rattle.blaze_streams.proofs.RowParts.{intersection_given}
use Rattle.blaze_streams.proofs.merge.operations.IntersectionOperation.merge.Goals as goal

pub returns : goal.returns
returns g c =
    IfOk-weaker c.intersection_of.result _ _ (λ new chosen. intersection_given g.VC.Value.PartialEq.eq g.met.VC.Value.Eq.laws _ _ new chosen.content) c.intersection_of.ensures
