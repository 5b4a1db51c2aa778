use Rattle.range_map_multi.proofs.Words.{map, is_some, list_all, shown_ranges, all_lengths_left, shown_full_row, all_valued}
use Rattle.range_map_multi.proofs.AnsweredRows.{IsAskedSoFar}
use Rattle.range_map_multi.proofs.row_answers.inner_answers_of_some.Given as goal

abbrev pub invariant-loop-out : goal.invariant-loop-out
invariant-loop-out g l =
    let values = map (λ v. map g.S.Shows.shown v.items) l.lists in
    IsAskedSoFar (λ a. shown_full_row g.S.Shows.shown a.0.now) g.F.FnMut g.S.Value.PartialEq.eq g.W.PartialEq.eq g.T.Integer.low g.T.Integer.high (list_all is_some) l.initial.f
    values (all_valued values l.fn.cursors) l.cursors l.f (shown_ranges g.T.Integer.rank (λ o. o.0) l.out.items)

abbrev pub decreases-loop-out : goal.decreases-loop-out
decreases-loop-out g l = all_lengths_left l.cursors
