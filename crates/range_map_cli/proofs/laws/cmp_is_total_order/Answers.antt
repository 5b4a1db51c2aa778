use Rattle.range_map_cli.proofs.Equals.{order_of_maps}
use Rattle.range_map_cli.proofs.laws.cmp_is_total_order.Goals as goal

pub returns : goal.returns
returns g c = order_of_maps g.V.PartialEq.eq g.V.Ord.cmp g.T.Integer.low g.T.Integer.high g.met.V.Eq.laws g.met.V.Ord.total g.met.V.Ord.matches_eq
