use Rattle.range_map_blaze.proofs.Paints.Paintings.{in_turn}
use Rattle.range_map_blaze.proofs.laws.painting_in_turn_extends.Goals as goal

pub returns : goal.returns
returns g c = in_turn g.V.PartialEq.eq g.met.V.Eq.laws g.T.Integer.low g.T.Integer.high
