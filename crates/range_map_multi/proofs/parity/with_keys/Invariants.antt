use Rattle.range_map_multi.proofs.Words.{◌≡◌, ◌++◌, length, shown_ranges, in_places}
use Rattle.range_map_multi.proofs.parity.with_keys.Given as goal

-- what was taken, and what is left, are all; of the ranges too
abbrev pub invariant-loop-item : goal.invariant-loop-item
invariant-loop-item g l =
    (shown_ranges g.T.Integer.rank g.VC.ValueCarrier.shown l.items.items ++ g.I.SortedDisjointMap.left l.item-iterator ≡ g.I.SortedDisjointMap.left l.fn.stream)
    × (shown_ranges g.T.Integer.rank (λ p. p) l.keys.items ++ in_places (length l.items.items) (g.I.SortedDisjointMap.left l.item-iterator) ≡ in_places 0 (g.I.SortedDisjointMap.left l.fn.stream))
