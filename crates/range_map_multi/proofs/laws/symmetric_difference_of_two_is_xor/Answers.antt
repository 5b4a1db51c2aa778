use Rattle.range_map_multi.proofs.OfTwo.{difference_of_two}
use Rattle.range_map_multi.proofs.laws.symmetric_difference_of_two_is_xor.Goals as goal

pub returns : goal.returns
returns g c = difference_of_two g.V.PartialEq.eq g.met.V.Eq.laws g.T.Integer.low g.T.Integer.high
