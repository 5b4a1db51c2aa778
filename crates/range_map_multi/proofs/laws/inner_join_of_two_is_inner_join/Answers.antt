use Rattle.range_map_multi.proofs.JoinsOfTwo.{inner_join_of_two}
use Rattle.range_map_multi.proofs.laws.inner_join_of_two_is_inner_join.Goals as goal

pub returns : goal.returns
returns g c = inner_join_of_two _ _ _ _ g.V.PartialEq.eq g.met.V.Eq.laws g.W.PartialEq.eq g.met.W.Eq.laws g.T.Integer.low g.T.Integer.high
