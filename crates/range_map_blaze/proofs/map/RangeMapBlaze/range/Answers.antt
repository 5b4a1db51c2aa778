use Rattle.range_map_blaze.proofs.Words.{rules}
use Rattle.range_map_blaze.proofs.map.RangeMapBlaze.range.Goals as goal

pub returns-clause-within : goal.returns-clause-within
returns-clause-within g c = search rules
