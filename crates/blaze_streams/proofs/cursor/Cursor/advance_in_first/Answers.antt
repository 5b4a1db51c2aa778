use Rattle.std.specs.Prelude.{IfNone}
use Rattle.blaze_entries.specs.Entries.{shown_range_entry}
use Rattle.blaze_int.proofs.Comparisons.{le_holds}
use Rattle.blaze_streams.proofs.Words.{◌≡◌, ◌∙◌, [], sym, ap, subst, le_fails, IsCanonical, after, ahead_of}
use Rattle.blaze_streams.proofs.FirstRanges.{first_cut, first_kept, none_above, part_canonical}
use Rattle.blaze_streams.proofs.cursor.Cursor.advance_in_first.Goals as goal

pub invariant_of-self : goal.invariant_of-self
invariant_of-self g c = c.self.invariant

pub returns-in_default : goal.returns-in_default
returns-in_default g c =
    let rank = g.T.Integer.rank in
    let none = sym c.self.view_is ∙ ap (λ h. ahead_of rank g.VC.ValueCarrier.shown h (g.I.SortedDisjointMap.left c.self.inside.rest)) c.in_default.is ∙ subst (λ h. IfNone h (g.I.SortedDisjointMap.left c.self.inside.rest ≡ [])) c.in_default.is c.self.invariant.0 in
    c.self.view_is ∙ none_above (rank c.args.end) _ none

pub invariant_of-self-then-is_at_most : goal.invariant_of-self-then-is_at_most
invariant_of-self-then-is_at_most g c =
    let rank = g.T.Integer.rank in
    let eq = g.VC.Value.PartialEq.eq in
    let canonical = subst (IsCanonical eq) (ap (λ h. ahead_of rank g.VC.ValueCarrier.shown h (g.I.SortedDisjointMap.left c.self.inside.rest)) c.in-Some.is) c.self.invariant.1 in
    (c.take_first.ensures.none, subst (IsCanonical eq) (sym c.take_first.ensures.left) canonical.2)

pub invariant_of-self-then-is_at_most-2 : goal.invariant_of-self-then-is_at_most-2
invariant_of-self-then-is_at_most-2 g c =
    let rank = g.T.Integer.rank in
    let eq = g.VC.Value.PartialEq.eq in
    let canonical = subst (IsCanonical eq) (ap (λ h. ahead_of rank g.VC.ValueCarrier.shown h (g.I.SortedDisjointMap.left c.self.inside.rest)) c.in-Some.is) c.self.invariant.1 in
    (tt, part_canonical eq (rank c.args.end) (shown_range_entry rank g.VC.ValueCarrier.shown c.in-Some.head) (g.I.SortedDisjointMap.left c.self.inside.rest) _ canonical (first_cut (rank c.args.end) _ (shown_range_entry rank g.VC.ValueCarrier.shown c.in-Some.head) (g.I.SortedDisjointMap.left c.self.inside.rest) c.add_one-head.ensures (le_fails _ _ (sym c.is_at_most.ensures ∙ c.if-is_at_most.false)) (le_holds _ _ (sym c.is_at_most-else-is_at_most.ensures ∙ c.if-is_at_most-2.true))))

pub returns-then-is_at_most-2 : goal.returns-then-is_at_most-2
returns-then-is_at_most-2 g c =
    let rank = g.T.Integer.rank in
    let is = sym c.self.view_is ∙ ap (λ h. ahead_of rank g.VC.ValueCarrier.shown h (g.I.SortedDisjointMap.left c.self.inside.rest)) c.in-Some.is in
    first_cut (rank c.args.end) _ (shown_range_entry rank g.VC.ValueCarrier.shown c.in-Some.head) (g.I.SortedDisjointMap.left c.self.inside.rest) c.add_one-head.ensures (le_fails _ _ (sym c.is_at_most.ensures ∙ c.if-is_at_most.false)) (le_holds _ _ (sym c.is_at_most-else-is_at_most.ensures ∙ c.if-is_at_most-2.true)) ∙ ap (after (rank c.args.end)) (sym is)

pub invariant_of-self-else-is_at_most-2 : goal.invariant_of-self-else-is_at_most-2
invariant_of-self-else-is_at_most-2 g c =
    let rank = g.T.Integer.rank in
    let eq = g.VC.Value.PartialEq.eq in
    let canonical = subst (IsCanonical eq) (ap (λ h. ahead_of rank g.VC.ValueCarrier.shown h (g.I.SortedDisjointMap.left c.self.inside.rest)) c.in-Some.is) c.self.invariant.1 in
    (tt, canonical)

pub returns-else-is_at_most-2 : goal.returns-else-is_at_most-2
returns-else-is_at_most-2 g c =
    let rank = g.T.Integer.rank in
    let eq = g.VC.Value.PartialEq.eq in
    let is = sym c.self.view_is ∙ ap (λ h. ahead_of rank g.VC.ValueCarrier.shown h (g.I.SortedDisjointMap.left c.self.inside.rest)) c.in-Some.is in
    let canonical = subst (IsCanonical eq) (ap (λ h. ahead_of rank g.VC.ValueCarrier.shown h (g.I.SortedDisjointMap.left c.self.inside.rest)) c.in-Some.is) c.self.invariant.1 in
    first_kept eq (rank c.args.end) (shown_range_entry rank g.VC.ValueCarrier.shown c.in-Some.head) (g.I.SortedDisjointMap.left c.self.inside.rest) canonical (le_fails _ _ (sym c.is_at_most-else-is_at_most.ensures ∙ c.if-is_at_most-2.false)) ∙ ap (after (rank c.args.end)) (sym is)
