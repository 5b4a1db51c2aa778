use Rattle.blaze_table.proofs.Words.{◌∙◌, ap, sym, subst, CountedEntries, entry, IsPainted, IsInside, IsCountedPaint, painted_map}
use Rattle.blaze_table.proofs.Walks.FewLooks.{counted}
use Rattle.blaze_table.proofs.Walks.Found.{found_still, not_inside}
use Rattle.blaze_table.proofs.table.RangeTable.paint_by_splice.Goals as goal

pub returns-in_err-found-clause-inside : goal.returns-in_err-found-clause-inside
returns-in_err-found-clause-inside g c = λ i.
    let rank = g.T.Integer.rank in
    let eq = g.V.PartialEq.eq in
    absurd (not_inside eq c.args.value _ _ c.requires.order _ c.self.invariant.canonical c.in_err-found.ensures.refused
    (subst (λ (s : CountedEntries g.row.V.Denot). IsInside eq (rank c.args.lo) (rank c.args.hi) c.args.value s.entries) (sym c.self.view_is) i))

pub paint_planned-requires-clause-walk : goal.paint_planned-requires-clause-walk
paint_planned-requires-clause-walk g c =
    found_still c.walk_by_looks.ensures.looked
    c.in_ok-found.ensures.found

pub returns-clause-ok : goal.returns-clause-ok
returns-clause-ok g c =
    let rank = g.T.Integer.rank in
    let eq = g.V.PartialEq.eq in
    let p = entry (rank c.args.lo) (rank c.args.hi) c.args.value in
    let new = c.paint_planned.new.entries.entries in
    subst (λ es. IsPainted eq g.T.Integer.low g.T.Integer.high p es new) (ap (λ (s : CountedEntries g.row.V.Denot). s.entries) (c.walk_by_looks.ensures.looked.alone) ∙ ap (λ (s : CountedEntries g.row.V.Denot). s.entries) c.self.view_is)
    (painted_map eq g.met.V.Eq.laws g.T.Integer.low g.T.Integer.high _ p _ new c.requires.order c.in_ok-new_len.ensures.painted (λ i. (c.paint_planned.ensures.inside i).1))

pub returns-clause-counted : goal.returns-clause-counted
returns-clause-counted g c =
    subst (λ (s : CountedEntries g.row.V.Denot). IsCountedPaint s c.paint_planned.new.entries) c.self.view_is
    (counted _ _ _ c.walk_by_looks.new.entries c.paint_planned.new.entries c.walk_by_looks.ensures.looked 2 c.in_ok-new_len.ensures.worked c.in_ok-new_len.ensures.painted.short)
