use Rattle.blaze_streams.proofs.Words.{length}
use Rattle.blaze_streams.proofs.merge.rounds.+merged.Given as goal

abbrev pub decreases-merged : goal.decreases-merged
decreases-merged g l = length l.streams.items
