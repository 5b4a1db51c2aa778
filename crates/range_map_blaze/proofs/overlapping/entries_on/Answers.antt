use Rattle.range_map_blaze.proofs.Words.{rules}
use Rattle.range_map_blaze.proofs.overlapping.entries_on.Goals as goal

pub returns : goal.returns
returns g c = search rules
