use Rattle.range_map_blaze.proofs.Words.{rules}
use Rattle.range_map_blaze.proofs.compare.order.compare_first.Goals as goal

pub returns-clause-order : goal.returns-clause-order
returns-clause-order g c = search rules
