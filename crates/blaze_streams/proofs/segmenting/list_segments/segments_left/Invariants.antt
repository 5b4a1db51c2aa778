use Rattle.blaze_streams.proofs.Words.{nat_eq, shown_segments}
use Rattle.blaze_streams.proofs.LengthsLeft.{all_lengths_left}
use Rattle.blaze_streams.proofs.FoundSegments.{IsFound}
use Rattle.blaze_streams.proofs.segmenting.list_segments.segments_left.Given as goal

abbrev pub invariant-loop-found : goal.invariant-loop-found
invariant-loop-found g l = IsFound nat_eq l.initial.lists (shown_segments g.T.Integer.rank l.found.items) l.lists

abbrev pub decreases-loop-found : goal.decreases-loop-found
decreases-loop-found g l = all_lengths_left l.lists
