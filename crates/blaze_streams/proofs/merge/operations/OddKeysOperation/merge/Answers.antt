use Rattle.blaze_streams.proofs.Words.{IfOk-weaker}
use Rattle.blaze_streams.proofs.RowParts.{odd_given}
use Rattle.blaze_streams.proofs.merge.operations.OddKeysOperation.merge.Goals as goal

pub returns : goal.returns
returns g c =
    IfOk-weaker c.symmetric_difference_of.result _ _ (λ new chosen. odd_given g.VC.Value.PartialEq.eq _ _ new chosen.content) c.symmetric_difference_of.ensures
