use Rattle.range_map_cli.proofs.Operators.{counts_add_up}
use Rattle.range_map_cli.proofs.laws.counts_add_up.Goals as goal

pub returns : goal.returns
returns g c = counts_add_up g.V.PartialEq.eq g.T.Integer.low g.T.Integer.high
