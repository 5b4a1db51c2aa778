use Rattle.range_map_multi.proofs.Words.{◌<◌, length, IfSome}
use Rattle.range_map_multi.proofs.sizes.position_of_large.Given as goal

-- the position is one of the list
abbrev pub invariant-loop-position : goal.invariant-loop-position
invariant-loop-position g l = IfSome l.large (λ position. position < length l.maps)
