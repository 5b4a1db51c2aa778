use Rattle.blaze_streams.proofs.Words.{IfOk-weaker}
use Rattle.blaze_streams.proofs.RowParts.{union_given}
use Rattle.blaze_streams.proofs.merge.operations.UnionOperation.merge.Goals as goal

pub returns : goal.returns
returns g c =
    IfOk-weaker c.union_of.result _ _ (λ new chosen. union_given g.VC.Value.PartialEq.eq g.met.VC.Value.Eq.laws _ _ new chosen.content) c.union_of.ensures
