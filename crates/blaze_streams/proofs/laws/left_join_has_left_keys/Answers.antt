use Rattle.blaze_streams.proofs.JoinLaws.{left_join_has_left_keys}
use Rattle.blaze_streams.proofs.laws.left_join_has_left_keys.Goals as goal

pub returns : goal.returns
returns g c = left_join_has_left_keys g.V.PartialEq.eq g.W.PartialEq.eq g.T.Integer.low g.T.Integer.high
