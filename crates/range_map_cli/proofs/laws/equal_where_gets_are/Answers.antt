use Rattle.range_map_cli.proofs.Equals.{equal_where_gets_are}
use Rattle.range_map_cli.proofs.laws.equal_where_gets_are.Goals as goal

pub returns : goal.returns
returns g c = equal_where_gets_are g.T.Integer.rank g.T.Integer.of_rank g.V.PartialEq.eq g.met.V.Eq.laws g.T.Integer.low g.T.Integer.high g.met.T.Integer.ranked.has_key
