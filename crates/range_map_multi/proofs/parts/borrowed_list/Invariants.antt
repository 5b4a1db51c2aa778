use Rattle.range_map_multi.proofs.Words.{◌≡◌, ◌++◌, drop, map}
use Rattle.range_map_multi.proofs.parts.borrowed_list.Given as goal

abbrev pub invariant-loop-carrier : goal.invariant-loop-carrier
invariant-loop-carrier g l = map (λ c. c.now) l.borrowed.items ++ drop l.carrier-index l.list ≡ l.list
