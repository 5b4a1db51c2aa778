use Rattle.range_map_blaze.proofs.JoinedKeys.{answers_are_on_its_keys}
use Rattle.range_map_blaze.proofs.laws.transform_values_keeps_keys.Goals as goal

pub returns : goal.returns
returns g c = answers_are_on_its_keys _ _ g.W.PartialEq.eq g.T.Integer.low g.T.Integer.high
