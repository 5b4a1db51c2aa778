use Rattle.range_map_blaze.proofs.Words.{shown_list, IsAnsweredSoFar}
use Rattle.range_map_blaze.proofs.joins.map_of_answers.Given as goal

-- the entries are what the closure returned at the ranges that were taken
abbrev pub invariant-loop-item : goal.invariant-loop-item
invariant-loop-item g l =
    IsAnsweredSoFar g.C.Asks.shows g.C.Asks.calls g.VC.Value.PartialEq.eq g.W.PartialEq.eq g.T.Integer.low g.T.Integer.high l.initial.f
    (g.S.SortedDisjointMap.left l.fn.stream) (g.S.SortedDisjointMap.left l.item-iterator) l.f (shown_list g.T.Integer.rank l.entries.items)
