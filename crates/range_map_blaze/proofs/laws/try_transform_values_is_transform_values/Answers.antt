use Rattle.range_map_blaze.proofs.TryLaws.{try_is_plain}
use Rattle.range_map_blaze.proofs.laws.try_transform_values_is_transform_values.Goals as goal

pub returns : goal.returns
returns g c = try_is_plain _ _ _ g.W.PartialEq.eq g.T.Integer.low g.T.Integer.high
