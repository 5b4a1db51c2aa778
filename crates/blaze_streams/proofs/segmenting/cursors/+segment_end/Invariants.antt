use Rattle.blaze_streams.proofs.Words.{length}
use Rattle.blaze_streams.proofs.segmenting.cursors.+segment_end.Given as goal

abbrev pub decreases-segment_end : goal.decreases-segment_end
decreases-segment_end g l = length l.lists.now
