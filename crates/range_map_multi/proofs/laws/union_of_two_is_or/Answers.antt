use Rattle.range_map_multi.proofs.OfTwo.{union_of_two}
use Rattle.range_map_multi.proofs.laws.union_of_two_is_or.Goals as goal

pub returns : goal.returns
returns g c = union_of_two g.V.PartialEq.eq g.met.V.Eq.laws g.T.Integer.low g.T.Integer.high
