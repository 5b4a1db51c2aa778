use Rattle.range_map_cli.proofs.Operators.{set_keeps}
use Rattle.range_map_cli.proofs.laws.set_keeps.Goals as goal

pub returns : goal.returns
returns g c = set_keeps
