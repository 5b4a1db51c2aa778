use Rattle.range_map_cli.proofs.Stepping.Calls.{each_once}
use Rattle.range_map_cli.proofs.laws.each_pair_once.Goals as goal

pub returns : goal.returns
returns g c = each_once _ _
