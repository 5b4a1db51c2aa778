use Rattle.range_map_blaze.proofs.Paints.FilledFrom.{filling_is_union}
use Rattle.range_map_blaze.proofs.laws.extend_absent_is_or.Goals as goal

pub returns : goal.returns
returns g c = filling_is_union g.V.PartialEq.eq g.met.V.Eq.laws g.T.Integer.low g.T.Integer.high
