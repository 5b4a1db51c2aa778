use Rattle.range_map_multi.proofs.Words.{map, into_iter_items}
use Rattle.range_map_multi.proofs.Placed.{AreTakenApart}
use Rattle.range_map_multi.proofs.parts.all_parts_of.Given as goal

abbrev pub invariant-loop-stream : goal.invariant-loop-stream
invariant-loop-stream g l =
    AreTakenApart g.VC.Value.PartialEq.eq g.T.Integer.low g.T.Integer.high (map g.I.SortedDisjointMap.left l.fn.streams.items) (map g.I.SortedDisjointMap.left (into_iter_items l.stream-iterator))
    (map (λ v. map g.VC.ValueCarrier.shown v.items) l.carriers.items) l.cursors.items
