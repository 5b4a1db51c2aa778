use Rattle.range_map_blaze.proofs.JoinedKeys.{full_join_is_inner_join}
use Rattle.range_map_blaze.proofs.laws.full_join_is_inner_join.Goals as goal

pub returns : goal.returns
returns g c = full_join_is_inner_join _ _ g.V.PartialEq.eq g.V2.PartialEq.eq g.W.PartialEq.eq g.T.Integer.low g.T.Integer.high _ _ g.met.V.Eq.laws g.met.V2.Eq.laws g.met.W.Eq.laws
