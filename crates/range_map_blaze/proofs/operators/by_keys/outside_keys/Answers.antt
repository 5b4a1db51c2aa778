use Rattle.range_map_blaze.proofs.Words.{IfOk-weaker}
use Rattle.range_map_blaze.proofs.Choices.{chosen_off}
use Rattle.range_map_blaze.proofs.operators.by_keys.outside_keys.Goals as goal

pub returns-then-is_narrow : goal.returns-then-is_narrow
returns-then-is_narrow g c = IfOk-weaker c.outside_keys_owned.result _ _ (λ new. chosen_off g.V.PartialEq.eq g.met.V.Eq.laws _ _ _ _ _ _ c.in_ok-clone.ensures.0) c.outside_keys_owned.ensures
