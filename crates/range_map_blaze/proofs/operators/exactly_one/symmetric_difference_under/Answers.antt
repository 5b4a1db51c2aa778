use Rattle.range_map_blaze.proofs.Words.{IfOk-weaker}
use Rattle.range_map_blaze.proofs.Choices.{either_first}
use Rattle.range_map_blaze.proofs.operators.exactly_one.symmetric_difference_under.Goals as goal

pub returns : goal.returns
returns g c = IfOk-weaker c.symmetric_difference_with.result _ _ (λ map. either_first g.V.PartialEq.eq g.met.V.Eq.laws _ _ _ _ _) c.symmetric_difference_with.ensures
