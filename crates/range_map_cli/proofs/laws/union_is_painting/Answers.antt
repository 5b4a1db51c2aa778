use Rattle.range_map_cli.proofs.Paints.{union_is_painting}
use Rattle.range_map_cli.proofs.laws.union_is_painting.Goals as goal

pub returns : goal.returns
returns g c = union_is_painting g.V.PartialEq.eq g.met.V.Eq.laws g.T.Integer.low g.T.Integer.high
