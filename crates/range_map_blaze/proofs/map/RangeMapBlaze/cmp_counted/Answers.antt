use Rattle.range_map_blaze.proofs.Words.{rules}
use Rattle.range_map_blaze.proofs.map.RangeMapBlaze.cmp_counted.Goals as goal

pub returns-in-Some-clause-last : goal.returns-in-Some-clause-last
returns-in-Some-clause-last g c = search rules
