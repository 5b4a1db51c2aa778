use Rattle.range_map_cli.proofs.Operators.{disjoint_union_commutes}
use Rattle.range_map_cli.proofs.laws.disjoint_union_commutes.Goals as goal

pub returns : goal.returns
returns g c = disjoint_union_commutes
