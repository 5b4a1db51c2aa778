use Rattle.range_map_multi.proofs.OfTwo.{intersection_of_two}
use Rattle.range_map_multi.proofs.laws.intersection_of_two_is_and.Goals as goal

pub returns : goal.returns
returns g c = intersection_of_two g.V.PartialEq.eq g.met.V.Eq.laws g.T.Integer.low g.T.Integer.high
