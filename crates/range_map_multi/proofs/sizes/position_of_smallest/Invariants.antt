use Rattle.range_map_multi.proofs.Words.{◌<◌, length}
use Rattle.range_map_multi.proofs.sizes.position_of_smallest.Given as goal

-- the position is one of the list
abbrev pub invariant-loop-position : goal.invariant-loop-position
invariant-loop-position g l = l.smallest < length l.maps
