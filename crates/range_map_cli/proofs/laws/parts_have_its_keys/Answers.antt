use Rattle.range_map_cli.proofs.Operators.{parts_have_its_keys}
use Rattle.range_map_cli.proofs.laws.parts_have_its_keys.Goals as goal

pub returns : goal.returns
returns g c = parts_have_its_keys
