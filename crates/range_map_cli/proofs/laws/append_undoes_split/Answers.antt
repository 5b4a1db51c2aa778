use Rattle.range_map_cli.proofs.Paints.{append_undoes_split}
use Rattle.range_map_cli.proofs.laws.append_undoes_split.Goals as goal

pub returns : goal.returns
returns g c = append_undoes_split g.V.PartialEq.eq g.met.V.Eq.laws g.T.Integer.low g.T.Integer.high
