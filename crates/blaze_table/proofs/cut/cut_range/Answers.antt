use Rattle.blaze_table.proofs.Words.{if_err, ◌≡◌, true, false, ap, sym, subst, inl, inr, option_copied, is_sought, GoesOnUnequal, CountedEntries, IsEditPlan, IsListWithoutRange, IsRangeTaken}
use Rattle.blaze_table.proofs.Cuts.RangeCuts.{end_is, range_place, range_cut, rest_above, counted_cut}
use Rattle.blaze_table.proofs.Walks.FewLooks.{looked_by_walk}
use Rattle.blaze_table.proofs.Walks.Found.{has_ranges, has_keys, found_above, walked}
use Rattle.blaze_table.proofs.cut.cut_range.Goals as goal

pub walk-requires-clause-ranges : goal.walk-requires-clause-ranges
walk-requires-clause-ranges g c = has_ranges g.V.PartialEq.eq (g.T.Integer.rank c.args.lo) (g.T.Integer.rank c.args.hi) g.T.Integer.low g.T.Integer.high c.requires.order _ _ c.in_hand.ensures c.requires.table

pub walk-requires-clause-len : goal.walk-requires-clause-len
walk-requires-clause-len g c = has_keys g.V.PartialEq.eq _ _ g.T.Integer.low g.T.Integer.high c.requires.order _ _ c.in_hand.ensures c.requires.table

pub returns-in_err-found-clause-refused : goal.returns-in_err-found-clause-refused
returns-in_err-found-clause-refused g c =
    let over : GoesOnUnequal (is_sought g.V.PartialEq.eq (option_copied c.as_ref.result)) (g.T.Integer.rank c.args.hi) c.args.entries.now.entries = elim c.in_err-found.ensures.refused [
      | inl over ↦ found_above g.V.PartialEq.eq _ _ g.T.Integer.low g.T.Integer.high c.requires.order _ _ c.in_hand.ensures c.requires.table (is_sought g.V.PartialEq.eq (option_copied c.as_ref.result)) over
      | inr held ↦ absurd (let no : false ≡ true = held.0 in cc)
    ] in
    if_err c.from_residual.result over.over

pub remove_keys-requires-clause-place : goal.remove_keys-requires-clause-place
remove_keys-requires-clause-place g c =
    let same = ap (λ (s : CountedEntries g.row.V.Denot). s.entries) c.walk.ensures.looked.alone in
    subst (λ xs. IsEditPlan g.T.Integer.rank g.V.PartialEq.eq (g.T.Integer.rank c.args.lo) xs c.in_ok-found.found.plan c.in_ok-found.found.tail_value) (sym same)
    (range_place g.V.PartialEq.eq _ c.as_ref.ensures.value _ _ g.T.Integer.rank c.in_ok-found.found.plan _ _ c.args.entries.now.entries (walked g.V.PartialEq.eq _ _ g.T.Integer.low g.T.Integer.high c.requires.order _ _ c.in_hand.ensures c.requires.table _ c.requires.clones c.in_ok-found.ensures.found) g.T.Integer.low g.T.Integer.high c.requires.order c.in_hand.ensures c.requires.table.canonical)

pub returns-in_err-remove_keys-clause-refused : goal.returns-in_err-remove_keys-clause-refused
returns-in_err-remove_keys-clause-refused g c =
    if_err c.from_residual-in_err-remove_keys.result (rest_above g.V.PartialEq.eq _ c.as_ref.ensures.value _ _ g.T.Integer.rank c.in_ok-found.found.plan _ _ c.args.entries.now.entries (walked g.V.PartialEq.eq _ _ g.T.Integer.low g.T.Integer.high c.requires.order _ _ c.in_hand.ensures c.requires.table _ c.requires.clones c.in_ok-found.ensures.found) g.T.Integer.low g.T.Integer.high c.requires.order c.in_hand.ensures c.requires.table.canonical
    c.in_err-remove_keys.ensures.refused)

pub returns-clause-cut : goal.returns-clause-cut
returns-clause-cut g c =
    let rank = g.T.Integer.rank in
    let same = ap (λ (s : CountedEntries g.row.V.Denot). s.entries) c.walk.ensures.looked.alone in
    range_cut g.V.PartialEq.eq _ c.as_ref.ensures.value _ _ rank c.in_ok-found.found.plan _ _ c.args.entries.now.entries (walked g.V.PartialEq.eq _ _ g.T.Integer.low g.T.Integer.high c.requires.order _ _ c.in_hand.ensures c.requires.table _ c.requires.clones c.in_ok-found.ensures.found) g.T.Integer.low g.T.Integer.high c.requires.order c.in_hand.ensures c.requires.table.canonical g.met.V.Eq.laws _ c.remove_keys.new.entries.entries c.requires.table
    (subst (λ xs. IsRangeTaken g.V.PartialEq.eq (rank c.args.lo) (rank c.in_ok-found.found.plan.end) xs c.remove_keys.new.entries.entries) same c.in_ok-remove_keys.ensures.cut)

pub returns-clause-counted : goal.returns-clause-counted
returns-clause-counted g c =
    let rank = g.T.Integer.rank in
    let end = end_is g.V.PartialEq.eq _ c.as_ref.ensures.value _ _ rank c.in_ok-found.found.plan _ _ c.args.entries.now.entries (walked g.V.PartialEq.eq _ _ g.T.Integer.low g.T.Integer.high c.requires.order _ _ c.in_hand.ensures c.requires.table _ c.requires.clones c.in_ok-found.ensures.found) in
    counted_cut g.V.PartialEq.eq g.met.V.Eq.laws _ _ c.args.entries.now c.walk.new.self c.remove_keys.new.entries (looked_by_walk g.V.PartialEq.eq _ _ g.T.Integer.low g.T.Integer.high c.requires.order c.in_hand.ensures c.requires.table.canonical c.walk.ensures.looked)
    (subst (λ z. IsListWithoutRange g.V.PartialEq.eq (rank c.args.lo) z c.walk.new.self.entries c.remove_keys.new.entries.entries) end c.in_ok-remove_keys.ensures.cut.cut) c.in_ok-remove_keys.ensures.worked
