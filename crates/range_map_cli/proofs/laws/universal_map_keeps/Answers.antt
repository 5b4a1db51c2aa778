use Rattle.range_map_cli.proofs.Operators.{universal_keeps}
use Rattle.range_map_cli.proofs.laws.universal_map_keeps.Goals as goal

pub returns : goal.returns
returns g c = universal_keeps
