use Rattle.range_map_blaze.proofs.JoinedKeys.{left_join_is_on_the_left_keys}
use Rattle.range_map_blaze.proofs.laws.left_join_has_left_keys.Goals as goal

pub returns : goal.returns
returns g c = left_join_is_on_the_left_keys _ _ g.V.PartialEq.eq g.V2.PartialEq.eq g.W.PartialEq.eq g.T.Integer.low g.T.Integer.high
