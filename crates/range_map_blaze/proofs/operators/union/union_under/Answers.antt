use Rattle.range_map_blaze.proofs.Words.{rules}
use Rattle.range_map_blaze.proofs.operators.union.union_under.Goals as goal

pub returns-in-Under : goal.returns-in-Under
returns-in-Under g c = search rules
