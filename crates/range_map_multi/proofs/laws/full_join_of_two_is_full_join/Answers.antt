use Rattle.range_map_multi.proofs.JoinsOfTwo.{full_join_of_two}
use Rattle.range_map_multi.proofs.laws.full_join_of_two_is_full_join.Goals as goal

pub returns : goal.returns
returns g c = full_join_of_two _ _ _ _ g.V.PartialEq.eq g.met.V.Eq.laws g.W.PartialEq.eq g.met.W.Eq.laws g.T.Integer.low g.T.Integer.high
