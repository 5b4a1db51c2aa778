use Rattle.range_map_multi.proofs.Words.{◌≡◌, ◌++◌, map, into_iter_items, in_places}
use Rattle.range_map_multi.proofs.parity.all_with_keys.Given as goal

-- the lists made, and those of the streams that are left, are all; of the ranges too
abbrev pub invariant-loop-stream : goal.invariant-loop-stream
invariant-loop-stream g l =
    (l.lists.items ++ map g.I.SortedDisjointMap.left (into_iter_items l.stream-iterator) ≡ map g.I.SortedDisjointMap.left l.fn.streams.items)
    × (l.keys.items ++ map (λ s. in_places 0 (g.I.SortedDisjointMap.left s)) (into_iter_items l.stream-iterator) ≡ map (λ s. in_places 0 (g.I.SortedDisjointMap.left s)) l.fn.streams.items)
