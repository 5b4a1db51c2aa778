use Rattle.blaze_table.proofs.Words.{◌≡◌, ◌∙◌, ap, sym, subst, arith, ints, CountedEntries, entry, IsPainted, IsInside, IsCountedPaint, painted_map}
use Rattle.blaze_table.proofs.Walks.FewLooks.{counted, looked_by_walk}
use Rattle.blaze_table.proofs.Walks.Found.{has_ranges, has_keys, walked, found_above, found_still}
use Rattle.blaze_table.proofs.table.RangeTable.insert.Goals as goal

pub walk-requires-clause-ranges : goal.walk-requires-clause-ranges
walk-requires-clause-ranges g c = has_ranges g.V.PartialEq.eq (g.T.Integer.rank c.args.key) (g.T.Integer.rank c.args.key) g.T.Integer.low g.T.Integer.high (omega (arith, ints)) _ _ c.in_hand.ensures c.self.invariant

pub walk-requires-clause-len : goal.walk-requires-clause-len
walk-requires-clause-len g c = has_keys g.V.PartialEq.eq _ _ g.T.Integer.low g.T.Integer.high (omega (arith, ints)) _ _ c.in_hand.ensures c.self.invariant

pub paint_planned-requires-clause-walk : goal.paint_planned-requires-clause-walk
paint_planned-requires-clause-walk g c =
    found_still (looked_by_walk g.V.PartialEq.eq _ _ g.T.Integer.low g.T.Integer.high (omega (arith, ints)) c.in_hand.ensures c.self.invariant.canonical c.walk.ensures.looked)
    (walked g.V.PartialEq.eq _ _ g.T.Integer.low g.T.Integer.high (omega (arith, ints)) _ _ c.in_hand.ensures c.self.invariant _ c.requires c.in_ok-found.ensures.found)

pub returns-clause-ok : goal.returns-clause-ok
returns-clause-ok g c =
    let rank = g.T.Integer.rank in
    let eq = g.V.PartialEq.eq in
    let p = entry (rank c.args.key) (rank c.args.key) c.args.value in
    let new = c.paint_planned.new.entries.entries in
    subst (λ es. IsPainted eq g.T.Integer.low g.T.Integer.high p es new) (ap (λ (s : CountedEntries g.row.V.Denot). s.entries) (c.walk.ensures.looked.alone) ∙ ap (λ (s : CountedEntries g.row.V.Denot). s.entries) c.self.view_is)
    (painted_map eq g.met.V.Eq.laws g.T.Integer.low g.T.Integer.high _ p _ new (omega (arith, ints)) c.in_ok-new_len.ensures.painted (λ i. (c.paint_planned.ensures.inside i).1))

pub returns-clause-counted : goal.returns-clause-counted
returns-clause-counted g c =
    subst (λ (s : CountedEntries g.row.V.Denot). IsCountedPaint s c.paint_planned.new.entries) c.self.view_is
    (counted _ _ _ c.walk.new.self c.paint_planned.new.entries (looked_by_walk g.V.PartialEq.eq _ _ g.T.Integer.low g.T.Integer.high (omega (arith, ints)) c.in_hand.ensures c.self.invariant.canonical c.walk.ensures.looked) 2 c.in_ok-new_len.ensures.worked c.in_ok-new_len.ensures.painted.short)
