use Rattle.range_map_blaze.proofs.TakenBack.{taking_is_undone}
use Rattle.range_map_blaze.proofs.laws.extend_from_undoes_ranges_take.Goals as goal

pub returns : goal.returns
returns g c = taking_is_undone g.V.PartialEq.eq g.met.V.Eq.laws g.T.Integer.low g.T.Integer.high
