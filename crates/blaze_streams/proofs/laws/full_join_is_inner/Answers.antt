use Rattle.blaze_streams.proofs.JoinLaws.{full_join_is_inner}
use Rattle.blaze_streams.proofs.laws.full_join_is_inner.Goals as goal

pub returns : goal.returns
returns g c = full_join_is_inner g.V.PartialEq.eq g.W.PartialEq.eq g.met.V.Eq.laws g.met.W.Eq.laws g.T.Integer.low g.T.Integer.high
