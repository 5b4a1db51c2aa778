use Rattle.range_map_cli.proofs.Operators.{xor_with_itself_is_empty}
use Rattle.range_map_cli.proofs.laws.xor_with_itself_is_empty.Goals as goal

pub returns : goal.returns
returns g c = xor_with_itself_is_empty
