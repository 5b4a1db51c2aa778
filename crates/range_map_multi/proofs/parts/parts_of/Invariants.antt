use Rattle.range_map_multi.proofs.Words.{◌≡◌, ◌++◌, length, map, values, shown_ranges, in_places}
use Rattle.range_map_multi.proofs.parts.parts_of.Given as goal

-- what was taken, and what is left, are all; of the carriers too
abbrev pub invariant-loop-item : goal.invariant-loop-item
invariant-loop-item g l = record {
  ranges : shown_ranges g.T.Integer.rank (λ p. p) l.ranges.items ++ in_places (length l.carriers.items) (g.I.SortedDisjointMap.left l.item-iterator) ≡ in_places 0 (g.I.SortedDisjointMap.left l.fn.stream);
  carriers : map g.VC.ValueCarrier.shown l.carriers.items ++ values (g.I.SortedDisjointMap.left l.item-iterator) ≡ values (g.I.SortedDisjointMap.left l.fn.stream);
}
