use Rattle.range_map_blaze.proofs.Words.{IfOk-weaker}
use Rattle.range_map_blaze.proofs.Choices.{chosen_on, chosen_without}
use Rattle.range_map_blaze.proofs.operators.by_keys.outside_keys_owned.Goals as goal

pub returns-then-is_whole : goal.returns-then-is_whole
returns-then-is_whole g c = chosen_without g.V.PartialEq.eq g.met.V.Eq.laws _ _ _ _ _ _ c.ranges_of.ensures.same_keys (c.in_ok-rest.ensures.cut c.if-is_whole.true)

pub returns-then-is_narrow : goal.returns-then-is_narrow
returns-then-is_narrow g c = IfOk-weaker c.all_outside_keys.result _ _ (λ new. chosen_on g.V.PartialEq.eq g.met.V.Eq.laws _ _ _ _ _ _ _ c.ranges_of.ensures.same_keys c.in_ok-rest.ensures.off) c.all_outside_keys.ensures
