use Rattle.range_map_cli.proofs.Stepping.OwnedCalls.{each_owned_once}
use Rattle.range_map_cli.proofs.laws.each_owned_pair_once.Goals as goal

pub returns : goal.returns
returns g c = each_owned_once g.T.Integer.of_rank g.V.PartialEq.eq
