use Rattle.range_map_cli.proofs.Operators.{union_is_idempotent}
use Rattle.range_map_cli.proofs.laws.union_is_idempotent.Goals as goal

pub returns : goal.returns
returns g c = union_is_idempotent
