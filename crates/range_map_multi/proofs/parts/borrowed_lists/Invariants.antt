use Rattle.range_map_multi.proofs.Words.{◌≡◌, ◌++◌, drop, map}
use Rattle.range_map_multi.proofs.parts.borrowed_lists.Given as goal

abbrev pub invariant-loop-list : goal.invariant-loop-list
invariant-loop-list g l = map (λ v. map (λ c. c.now) v.items) l.borrowed.items ++ map (λ v. v.items) (drop l.list-index l.lists) ≡ map (λ v. v.items) l.lists
