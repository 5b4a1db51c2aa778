use Rattle.blaze_streams.proofs.Words.{length}
use Rattle.blaze_streams.proofs.segmenting.cursors.+segment_start.Given as goal

abbrev pub decreases-segment_start : goal.decreases-segment_start
decreases-segment_start g l = length l.lists.now
