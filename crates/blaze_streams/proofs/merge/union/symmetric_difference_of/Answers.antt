use Rattle.blaze_streams.proofs.Words.{rules}
use Rattle.blaze_streams.proofs.merge.union.symmetric_difference_of.Goals as goal

pub returns : goal.returns
returns g c = search rules
