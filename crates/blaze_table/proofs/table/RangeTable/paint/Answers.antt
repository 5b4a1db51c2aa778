use Rattle.blaze_table.proofs.Words.{◌≡◌, true, false, ◌∙◌, ap, sym, subst, inl, inr, CountedEntries, entry, IsPainted, IsInside, GoesOnUnequal, IsCountedPaint, painted_map}
use Rattle.blaze_table.proofs.Walks.FewLooks.{counted, looked_by_walk}
use Rattle.blaze_table.proofs.Walks.Found.{has_ranges, has_keys, walked, found_above, found_still, not_inside}
use Rattle.blaze_table.proofs.table.RangeTable.paint.Goals as goal

pub walk-requires-clause-ranges : goal.walk-requires-clause-ranges
walk-requires-clause-ranges g c = has_ranges g.V.PartialEq.eq (g.T.Integer.rank c.args.lo) (g.T.Integer.rank c.args.hi) g.T.Integer.low g.T.Integer.high c.requires.order _ _ c.in_hand.ensures c.self.invariant

pub walk-requires-clause-len : goal.walk-requires-clause-len
walk-requires-clause-len g c = has_keys g.V.PartialEq.eq _ _ g.T.Integer.low g.T.Integer.high c.requires.order _ _ c.in_hand.ensures c.self.invariant

pub returns-in_err-found-clause-inside : goal.returns-in_err-found-clause-inside
returns-in_err-found-clause-inside g c = λ i.
    let rank = g.T.Integer.rank in
    let eq = g.V.PartialEq.eq in
    let over : GoesOnUnequal (λ (w : g.row.V.Denot). eq w c.args.value) (rank c.args.hi) c.self.inside.entries.counted.entries = elim c.in_err-found.ensures.refused [
      | inl over ↦ found_above eq _ _ g.T.Integer.low g.T.Integer.high c.requires.order _ _ c.in_hand.ensures c.self.invariant (λ w. eq w c.args.value) over
      | inr held ↦ absurd (let no : false ≡ true = held.0 in cc)
    ] in
    absurd (not_inside eq c.args.value _ _ c.requires.order _ c.self.invariant.canonical over
    (subst (λ (s : CountedEntries g.row.V.Denot). IsInside eq (rank c.args.lo) (rank c.args.hi) c.args.value s.entries) (sym c.self.view_is) i))

pub paint_planned-requires-clause-walk : goal.paint_planned-requires-clause-walk
paint_planned-requires-clause-walk g c =
    found_still (looked_by_walk g.V.PartialEq.eq _ _ g.T.Integer.low g.T.Integer.high c.requires.order c.in_hand.ensures c.self.invariant.canonical c.walk.ensures.looked)
    (walked g.V.PartialEq.eq _ _ g.T.Integer.low g.T.Integer.high c.requires.order _ _ c.in_hand.ensures c.self.invariant _ c.requires.clones c.in_ok-found.ensures.found)

pub returns-clause-ok : goal.returns-clause-ok
returns-clause-ok g c =
    let rank = g.T.Integer.rank in
    let eq = g.V.PartialEq.eq in
    let p = entry (rank c.args.lo) (rank c.args.hi) c.args.value in
    let new = c.paint_planned.new.entries.entries in
    subst (λ es. IsPainted eq g.T.Integer.low g.T.Integer.high p es new) (ap (λ (s : CountedEntries g.row.V.Denot). s.entries) (c.walk.ensures.looked.alone) ∙ ap (λ (s : CountedEntries g.row.V.Denot). s.entries) c.self.view_is)
    (painted_map eq g.met.V.Eq.laws g.T.Integer.low g.T.Integer.high _ p _ new c.requires.order c.in_ok-new_len.ensures.painted (λ i. (c.paint_planned.ensures.inside i).1))

pub returns-clause-counted : goal.returns-clause-counted
returns-clause-counted g c =
    subst (λ (s : CountedEntries g.row.V.Denot). IsCountedPaint s c.paint_planned.new.entries) c.self.view_is
    (counted _ _ _ c.walk.new.self c.paint_planned.new.entries (looked_by_walk g.V.PartialEq.eq _ _ g.T.Integer.low g.T.Integer.high c.requires.order c.in_hand.ensures c.self.invariant.canonical c.walk.ensures.looked) 2 c.in_ok-new_len.ensures.worked c.in_ok-new_len.ensures.painted.short)
