use Rattle.std.specs.Prelude.{IfNone}
use Rattle.blaze_entries.specs.Entries.{shown_range_entry}
use Rattle.blaze_int.proofs.Comparisons.{le_holds}
use Rattle.blaze_streams.proofs.Words.{◌≡◌, ◌∙◌, [], sym, ap, subst, le_fails, lt_holds, lt_fails, IsCanonical, canonical_after, after, after_skips, ahead_of}
use Rattle.blaze_streams.proofs.FirstRanges.{first_above, first_cut, first_kept, none_above, part_canonical}
use Rattle.blaze_streams.proofs.cursor.Cursor.advance.Goals.{then-is_at_most, else-is_at_most}
use Rattle.blaze_streams.proofs.cursor.Cursor.advance.Goals as goal

pub invariant_of-self : goal.invariant_of-self
invariant_of-self g c = c.self.invariant

pub returns-in_default : goal.returns-in_default
returns-in_default g c =
    let rank = g.T.Integer.rank in
    let none = sym c.self.view_is ∙ ap (λ h. ahead_of rank g.VC.ValueCarrier.shown h (g.I.SortedDisjointMap.left c.self.inside.rest)) c.in_default.is ∙ subst (λ h. IfNone h (g.I.SortedDisjointMap.left c.self.inside.rest ≡ [])) c.in_default.is c.self.invariant.0 in
    c.self.view_is ∙ none_above (rank c.args.end) _ none

pub invariant_of-self-then-is_below : goal.invariant_of-self-then-is_below
invariant_of-self-then-is_below g c =
    let rank = g.T.Integer.rank in
    let eq = g.VC.Value.PartialEq.eq in
    let canonical = subst (IsCanonical eq) (ap (λ h. ahead_of rank g.VC.ValueCarrier.shown h (g.I.SortedDisjointMap.left c.self.inside.rest)) c.in-Some.is) c.self.invariant.1 in
    elim c.if-is_at_most.branch [
      | then-is_at_most w ↦ rw w.self-inside-is (tt, part_canonical eq (rank c.args.end) (shown_range_entry rank g.VC.ValueCarrier.shown c.in-Some.head) (g.I.SortedDisjointMap.left c.self.inside.rest) _ canonical (first_cut (rank c.args.end) _ (shown_range_entry rank g.VC.ValueCarrier.shown c.in-Some.head) (g.I.SortedDisjointMap.left c.self.inside.rest) w.add_one-head.ensures (lt_holds _ _ (sym c.is_below.ensures ∙ c.if-is_below.true)) (le_holds _ _ (sym c.is_at_most.ensures ∙ w.if-is_at_most.true))))
      | else-is_at_most w ↦ rw w.self-inside-is (tt, canonical)
    ]

pub returns-then-is_below : goal.returns-then-is_below
returns-then-is_below g c =
    let rank = g.T.Integer.rank in
    let eq = g.VC.Value.PartialEq.eq in
    let is = sym c.self.view_is ∙ ap (λ h. ahead_of rank g.VC.ValueCarrier.shown h (g.I.SortedDisjointMap.left c.self.inside.rest)) c.in-Some.is in
    let canonical = subst (IsCanonical eq) (ap (λ h. ahead_of rank g.VC.ValueCarrier.shown h (g.I.SortedDisjointMap.left c.self.inside.rest)) c.in-Some.is) c.self.invariant.1 in
    elim c.if-is_at_most.branch [
      | then-is_at_most w ↦ rw w.self-inside-is (first_cut (rank c.args.end) _ (shown_range_entry rank g.VC.ValueCarrier.shown c.in-Some.head) (g.I.SortedDisjointMap.left c.self.inside.rest) w.add_one-head.ensures (lt_holds _ _ (sym c.is_below.ensures ∙ c.if-is_below.true)) (le_holds _ _ (sym c.is_at_most.ensures ∙ w.if-is_at_most.true)) ∙ ap (after (rank c.args.end)) (sym is))
      | else-is_at_most w ↦ rw w.self-inside-is (first_kept eq (rank c.args.end) (shown_range_entry rank g.VC.ValueCarrier.shown c.in-Some.head) (g.I.SortedDisjointMap.left c.self.inside.rest) canonical (le_fails _ _ (sym c.is_at_most.ensures ∙ w.if-is_at_most.false)) ∙ ap (after (rank c.args.end)) (sym is))
    ]

pub invariant_of-self-in_default-take_first : goal.invariant_of-self-in_default-take_first
invariant_of-self-in_default-take_first g c =
    let none = c.in_default-take_first.ensures.none in
    (none, subst (IsCanonical g.VC.Value.PartialEq.eq) (sym none) tt)

pub returns-in_default-take_first : goal.returns-in_default-take_first
returns-in_default-take_first g c =
    let rank = g.T.Integer.rank in
    let is = sym c.self.view_is ∙ ap (λ h. ahead_of rank g.VC.ValueCarrier.shown h (g.I.SortedDisjointMap.left c.self.inside.rest)) c.in-Some.is in
    let passed = sym (after_skips (rank c.args.end) (shown_range_entry rank g.VC.ValueCarrier.shown c.in-Some.head) (g.I.SortedDisjointMap.left c.self.inside.rest) (lt_fails _ _ (sym c.is_below.ensures ∙ c.if-is_below.false))) ∙ ap (after (rank c.args.end)) (sym is) in
    let none = c.in_default-take_first.ensures.none in
    none_above (rank c.args.end) _ none ∙ ap (after (rank c.args.end)) c.in_default-take_first.ensures.left ∙ passed

pub invariant_of-self-then-is_below-2 : goal.invariant_of-self-then-is_below-2
invariant_of-self-then-is_below-2 g c =
    let rank = g.T.Integer.rank in
    let eq = g.VC.Value.PartialEq.eq in
    let canonical = subst (IsCanonical eq) (ap (λ h. ahead_of rank g.VC.ValueCarrier.shown h (g.I.SortedDisjointMap.left c.self.inside.rest)) c.in-Some.is) c.self.invariant.1 in
    let next = subst (IsCanonical eq) (sym c.in-Some-take_first.ensures.left) canonical.2 in
    (tt, part_canonical eq (rank c.args.end) (shown_range_entry rank g.VC.ValueCarrier.shown c.in-Some-take_first.next) (g.I.SortedDisjointMap.left c.take_first.new.stream) _ next (first_above (rank c.args.end) _ (shown_range_entry rank g.VC.ValueCarrier.shown c.in-Some-take_first.next) (g.I.SortedDisjointMap.left c.take_first.new.stream) c.start_above-next.ensures (lt_holds _ _ (sym c.is_below-2.ensures ∙ c.if-is_below-2.true))))

pub returns-then-is_below-2 : goal.returns-then-is_below-2
returns-then-is_below-2 g c =
    let rank = g.T.Integer.rank in
    let is = sym c.self.view_is ∙ ap (λ h. ahead_of rank g.VC.ValueCarrier.shown h (g.I.SortedDisjointMap.left c.self.inside.rest)) c.in-Some.is in
    let passed = sym (after_skips (rank c.args.end) (shown_range_entry rank g.VC.ValueCarrier.shown c.in-Some.head) (g.I.SortedDisjointMap.left c.self.inside.rest) (lt_fails _ _ (sym c.is_below.ensures ∙ c.if-is_below.false))) ∙ ap (after (rank c.args.end)) (sym is) in
    first_above (rank c.args.end) _ (shown_range_entry rank g.VC.ValueCarrier.shown c.in-Some-take_first.next) (g.I.SortedDisjointMap.left c.take_first.new.stream) c.start_above-next.ensures (lt_holds _ _ (sym c.is_below-2.ensures ∙ c.if-is_below-2.true)) ∙ ap (after (rank c.args.end)) c.in-Some-take_first.ensures.left ∙ passed

pub invariant_of-self-2 : goal.invariant_of-self-2
invariant_of-self-2 g c =
    let rank = g.T.Integer.rank in
    let eq = g.VC.Value.PartialEq.eq in
    let is = ap (λ h. ahead_of rank g.VC.ValueCarrier.shown h (g.I.SortedDisjointMap.left c.self.inside.rest)) c.in-Some.is in
    let canonical = subst (IsCanonical eq) is c.self.invariant.1 in
    let next = ap (λ h. ahead_of rank g.VC.ValueCarrier.shown h (g.I.SortedDisjointMap.left c.take_first.new.stream)) c.in-Some-take_first.is in
    let rest = subst (IsCanonical eq) (sym c.take_first.ensures.left ∙ next) canonical.2 in
    (c.take_above.ensures.none, subst (IsCanonical eq) (sym c.take_above.ensures.left) (canonical_after eq (rank c.args.end) _ rest.2))

pub returns : goal.returns
returns g c =
    let rank = g.T.Integer.rank in
    let is = sym c.self.view_is ∙ ap (λ h. ahead_of rank g.VC.ValueCarrier.shown h (g.I.SortedDisjointMap.left c.self.inside.rest)) c.in-Some.is in
    let passed = sym (after_skips (rank c.args.end) (shown_range_entry rank g.VC.ValueCarrier.shown c.in-Some.head) (g.I.SortedDisjointMap.left c.self.inside.rest) (lt_fails _ _ (sym c.is_below.ensures ∙ c.if-is_below.false))) ∙ ap (after (rank c.args.end)) (sym is) in
    c.take_above.ensures.left ∙ sym (after_skips (rank c.args.end) (shown_range_entry rank g.VC.ValueCarrier.shown c.in-Some-take_first.next) (g.I.SortedDisjointMap.left c.take_first.new.stream) (lt_fails _ _ (sym c.is_below-2.ensures ∙ c.if-is_below-2.false))) ∙ ap (after (rank c.args.end)) c.in-Some-take_first.ensures.left ∙ passed
