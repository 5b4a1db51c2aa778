use Rattle.range_map_cli.proofs.Operators.{union_is_associative}
use Rattle.range_map_cli.proofs.laws.union_is_associative.Goals as goal

pub returns : goal.returns
returns g c = union_is_associative
