use Rattle.range_map_cli.proofs.Operators.{empty_is_unit}
use Rattle.range_map_cli.proofs.laws.empty_map_is_unit.Goals as goal

pub returns : goal.returns
returns g c = empty_is_unit
