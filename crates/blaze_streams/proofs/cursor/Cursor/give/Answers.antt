use Rattle.std.specs.Prelude.{IfNone}
use Rattle.blaze_entries.specs.Entries.{shown_range_entry}
use Rattle.blaze_streams.proofs.Words.{◌≡◌, rules, ◌∙◌, [], ◌∷◌, Some, None, refl, inl, inr, sym, ap, subst, lt_holds, lt_fails, at, SameOption, IsCanonical, AreOptions, IsItOrCarried, FirstHas, Reaches, after, ahead_of}
use Rattle.blaze_streams.proofs.Steady.{at_first}
use Rattle.blaze_streams.proofs.FirstRanges.{at_has, first_cut, first_gone, first_kept, none_above, part_canonical}
use Rattle.blaze_streams.proofs.cursor.Cursor.give.Goals as goal

pub invariant_of-self : goal.invariant_of-self
invariant_of-self g c = c.self.invariant

pub returns-in_default-clause-carried : goal.returns-in_default-clause-carried
returns-in_default-clause-carried g c =
    let rank = g.T.Integer.rank in
    let none = sym c.self.view_is ∙ ap (λ h. ahead_of rank g.VC.ValueCarrier.shown h (g.I.SortedDisjointMap.left c.self.inside.rest)) c.in_default.is ∙ subst (λ h. IfNone h (g.I.SortedDisjointMap.left c.self.inside.rest ≡ [])) c.in_default.is c.self.invariant.0 in
    subst (λ l. AreOptions (IsItOrCarried g.VC.ValueCarrier.is_carried) (at l (rank c.args.end)) None) (sym none) tt

pub returns-in_default-clause-alike : goal.returns-in_default-clause-alike
returns-in_default-clause-alike g c =
    let rank = g.T.Integer.rank in
    let none = sym c.self.view_is ∙ ap (λ h. ahead_of rank g.VC.ValueCarrier.shown h (g.I.SortedDisjointMap.left c.self.inside.rest)) c.in_default.is ∙ subst (λ h. IfNone h (g.I.SortedDisjointMap.left c.self.inside.rest ≡ [])) c.in_default.is c.self.invariant.0 in
    λ can. subst (λ l. SameOption g.VC.Value.PartialEq.eq (at l (rank c.args.end)) None) (sym none) tt

pub returns-in_default-clause-rest : goal.returns-in_default-clause-rest
returns-in_default-clause-rest g c =
    let rank = g.T.Integer.rank in
    let none = sym c.self.view_is ∙ ap (λ h. ahead_of rank g.VC.ValueCarrier.shown h (g.I.SortedDisjointMap.left c.self.inside.rest)) c.in_default.is ∙ subst (λ h. IfNone h (g.I.SortedDisjointMap.left c.self.inside.rest ≡ [])) c.in_default.is c.self.invariant.0 in
    c.self.view_is ∙ none_above (rank c.args.end) _ none

pub invariant_of-self-then-is_below : goal.invariant_of-self-then-is_below
invariant_of-self-then-is_below g c =
    let rank = g.T.Integer.rank in
    let eq = g.VC.Value.PartialEq.eq in
    let canonical = subst (IsCanonical eq) (ap (λ h. ahead_of rank g.VC.ValueCarrier.shown h (g.I.SortedDisjointMap.left c.self.inside.rest)) c.in-Some.is) c.self.invariant.1 in
    (tt, canonical)

pub returns-then-is_below-clause-carried : goal.returns-then-is_below-clause-carried
returns-then-is_below-clause-carried g c =
    let rank = g.T.Integer.rank in
    let eq = g.VC.Value.PartialEq.eq in
    let is = ap (λ h. ahead_of rank g.VC.ValueCarrier.shown h (g.I.SortedDisjointMap.left c.self.inside.rest)) c.in-Some.is in
    let none = ap (λ l. at l (rank c.args.end)) (sym c.self.view_is ∙ is) ∙ at_first eq _ _ (rank c.args.end) (subst (IsCanonical eq) is c.self.invariant.1) (search rules) in
    subst (λ o. AreOptions (IsItOrCarried g.VC.ValueCarrier.is_carried) o None) (sym none) tt

pub returns-then-is_below-clause-alike : goal.returns-then-is_below-clause-alike
returns-then-is_below-clause-alike g c =
    let rank = g.T.Integer.rank in
    let eq = g.VC.Value.PartialEq.eq in
    let is = ap (λ h. ahead_of rank g.VC.ValueCarrier.shown h (g.I.SortedDisjointMap.left c.self.inside.rest)) c.in-Some.is in
    let none = ap (λ l. at l (rank c.args.end)) (sym c.self.view_is ∙ is) ∙ at_first eq _ _ (rank c.args.end) (subst (IsCanonical eq) is c.self.invariant.1) (search rules) in
    λ can. subst (λ o. SameOption eq o None) (sym none) tt

pub returns-then-is_below-clause-rest : goal.returns-then-is_below-clause-rest
returns-then-is_below-clause-rest g c =
    let rank = g.T.Integer.rank in
    let eq = g.VC.Value.PartialEq.eq in
    let is = sym c.self.view_is ∙ ap (λ h. ahead_of rank g.VC.ValueCarrier.shown h (g.I.SortedDisjointMap.left c.self.inside.rest)) c.in-Some.is in
    let canonical = subst (IsCanonical eq) (ap (λ h. ahead_of rank g.VC.ValueCarrier.shown h (g.I.SortedDisjointMap.left c.self.inside.rest)) c.in-Some.is) c.self.invariant.1 in
    first_kept eq (rank c.args.end) (shown_range_entry rank g.VC.ValueCarrier.shown c.in-Some.field-0) (g.I.SortedDisjointMap.left c.self.inside.rest) canonical (lt_holds _ _ (sym c.is_below.ensures ∙ c.if-is_below.true)) ∙ ap (after (rank c.args.end)) (sym is)

pub invariant_of-self-in_err-other : goal.invariant_of-self-in_err-other
invariant_of-self-in_err-other g c =
    let rank = g.T.Integer.rank in
    let eq = g.VC.Value.PartialEq.eq in
    let canonical = subst (IsCanonical eq) (ap (λ h. ahead_of rank g.VC.ValueCarrier.shown h (g.I.SortedDisjointMap.left c.self.inside.rest)) c.in-Some.is) c.self.invariant.1 in
    (tt, part_canonical eq (rank c.args.end) (shown_range_entry rank g.VC.ValueCarrier.shown c.in-Some.field-0) (g.I.SortedDisjointMap.left c.self.inside.rest) _ canonical (first_cut (rank c.args.end) _ (shown_range_entry rank g.VC.ValueCarrier.shown c.in-Some.field-0) (g.I.SortedDisjointMap.left c.self.inside.rest) c.add_one.ensures (lt_holds _ _ (sym c.is_below-2.ensures ∙ c.if-is_below-2.true)) (lt_fails _ _ (sym c.is_below.ensures ∙ c.if-is_below.false))))

pub invariant_of-self-then-is_below-2 : goal.invariant_of-self-then-is_below-2
invariant_of-self-then-is_below-2 g c =
    let rank = g.T.Integer.rank in
    let eq = g.VC.Value.PartialEq.eq in
    let canonical = subst (IsCanonical eq) (ap (λ h. ahead_of rank g.VC.ValueCarrier.shown h (g.I.SortedDisjointMap.left c.self.inside.rest)) c.in-Some.is) c.self.invariant.1 in
    (tt, part_canonical eq (rank c.args.end) (shown_range_entry rank g.VC.ValueCarrier.shown c.in-Some.field-0) (g.I.SortedDisjointMap.left c.self.inside.rest) _ canonical (first_cut (rank c.args.end) _ (shown_range_entry rank g.VC.ValueCarrier.shown c.in-Some.field-0) (g.I.SortedDisjointMap.left c.self.inside.rest) c.add_one.ensures (lt_holds _ _ (sym c.is_below-2.ensures ∙ c.if-is_below-2.true)) (lt_fails _ _ (sym c.is_below.ensures ∙ c.if-is_below.false))))

pub returns-in_err-other-clause-rest : goal.returns-in_err-other-clause-rest
returns-in_err-other-clause-rest g c =
    let rank = g.T.Integer.rank in
    let is = sym c.self.view_is ∙ ap (λ h. ahead_of rank g.VC.ValueCarrier.shown h (g.I.SortedDisjointMap.left c.self.inside.rest)) c.in-Some.is in
    first_cut (rank c.args.end) _ (shown_range_entry rank g.VC.ValueCarrier.shown c.in-Some.field-0) (g.I.SortedDisjointMap.left c.self.inside.rest) c.add_one.ensures (lt_holds _ _ (sym c.is_below-2.ensures ∙ c.if-is_below-2.true)) (lt_fails _ _ (sym c.is_below.ensures ∙ c.if-is_below.false)) ∙ ap (after (rank c.args.end)) (sym is)

pub returns-then-is_below-2-clause-rest : goal.returns-then-is_below-2-clause-rest
returns-then-is_below-2-clause-rest g c =
    let rank = g.T.Integer.rank in
    let is = sym c.self.view_is ∙ ap (λ h. ahead_of rank g.VC.ValueCarrier.shown h (g.I.SortedDisjointMap.left c.self.inside.rest)) c.in-Some.is in
    first_cut (rank c.args.end) _ (shown_range_entry rank g.VC.ValueCarrier.shown c.in-Some.field-0) (g.I.SortedDisjointMap.left c.self.inside.rest) c.add_one.ensures (lt_holds _ _ (sym c.is_below-2.ensures ∙ c.if-is_below-2.true)) (lt_fails _ _ (sym c.is_below.ensures ∙ c.if-is_below.false)) ∙ ap (after (rank c.args.end)) (sym is)

pub returns-then-is_below-2-clause-carried : goal.returns-then-is_below-2-clause-carried
returns-then-is_below-2-clause-carried g c =
    let rank = g.T.Integer.rank in
    let is = sym c.self.view_is ∙ ap (λ h. ahead_of rank g.VC.ValueCarrier.shown h (g.I.SortedDisjointMap.left c.self.inside.rest)) c.in-Some.is in
    let has : FirstHas (rank c.args.end) ((shown_range_entry rank g.VC.ValueCarrier.shown c.in-Some.field-0) ∷ (g.I.SortedDisjointMap.left c.self.inside.rest)) = ((lt_fails _ _ (sym c.is_below.ensures ∙ c.if-is_below.false)), subst (Reaches (rank c.args.end)) is c.requires) in
    subst (λ o. AreOptions (IsItOrCarried g.VC.ValueCarrier.is_carried) o (Some (g.VC.ValueCarrier.shown c.in_ok-other.field-0))) (sym (at_has (rank c.args.end) _ (g.I.SortedDisjointMap.left c.self.inside.rest) (shown_range_entry rank g.VC.ValueCarrier.shown c.in-Some.field-0) is has)) (inr c.in_ok-other.ensures.carried)

pub returns-then-is_below-2-clause-alike : goal.returns-then-is_below-2-clause-alike
returns-then-is_below-2-clause-alike g c =
    let rank = g.T.Integer.rank in
    let eq = g.VC.Value.PartialEq.eq in
    let is = sym c.self.view_is ∙ ap (λ h. ahead_of rank g.VC.ValueCarrier.shown h (g.I.SortedDisjointMap.left c.self.inside.rest)) c.in-Some.is in
    let has : FirstHas (rank c.args.end) ((shown_range_entry rank g.VC.ValueCarrier.shown c.in-Some.field-0) ∷ (g.I.SortedDisjointMap.left c.self.inside.rest)) = ((lt_fails _ _ (sym c.is_below.ensures ∙ c.if-is_below.false)), subst (Reaches (rank c.args.end)) is c.requires) in
    λ can. subst (λ o. SameOption eq o (Some (g.VC.ValueCarrier.shown c.in_ok-other.field-0))) (sym (at_has (rank c.args.end) _ (g.I.SortedDisjointMap.left c.self.inside.rest) (shown_range_entry rank g.VC.ValueCarrier.shown c.in-Some.field-0) is has)) (c.in_ok-other.ensures.alike can)

pub invariant_of-self-2 : goal.invariant_of-self-2
invariant_of-self-2 g c =
    let rank = g.T.Integer.rank in
    let eq = g.VC.Value.PartialEq.eq in
    let canonical = subst (IsCanonical eq) (ap (λ h. ahead_of rank g.VC.ValueCarrier.shown h (g.I.SortedDisjointMap.left c.self.inside.rest)) c.in-Some.is) c.self.invariant.1 in
    rw c.replace.ensures.after (c.take_first-next.ensures.none, subst (IsCanonical eq) (sym c.take_first-next.ensures.left) canonical.2)

pub returns-clause-carried : goal.returns-clause-carried
returns-clause-carried g c =
    let rank = g.T.Integer.rank in
    let is = sym c.self.view_is ∙ ap (λ h. ahead_of rank g.VC.ValueCarrier.shown h (g.I.SortedDisjointMap.left c.self.inside.rest)) c.in-Some.is in
    let has : FirstHas (rank c.args.end) ((shown_range_entry rank g.VC.ValueCarrier.shown c.in-Some.field-0) ∷ (g.I.SortedDisjointMap.left c.self.inside.rest)) = ((lt_fails _ _ (sym c.is_below.ensures ∙ c.if-is_below.false)), subst (Reaches (rank c.args.end)) is c.requires) in
    let same = ap (λ h. ahead_of rank g.VC.ValueCarrier.shown h (g.I.SortedDisjointMap.left c.self.inside.rest)) (sym c.in-Some-replace.ensures.value) in
    let there = at_has (rank c.args.end) _ (g.I.SortedDisjointMap.left c.self.inside.rest) (shown_range_entry rank g.VC.ValueCarrier.shown c.in-Some-replace.field-0) (is ∙ same) (subst (FirstHas (rank c.args.end)) same has) in
    subst (λ o. AreOptions (IsItOrCarried g.VC.ValueCarrier.is_carried) o (Some (g.VC.ValueCarrier.shown c.in-Some-replace.field-0.value))) (sym there) (inl refl)

pub returns-clause-alike : goal.returns-clause-alike
returns-clause-alike g c =
    let rank = g.T.Integer.rank in
    let eq = g.VC.Value.PartialEq.eq in
    let is = sym c.self.view_is ∙ ap (λ h. ahead_of rank g.VC.ValueCarrier.shown h (g.I.SortedDisjointMap.left c.self.inside.rest)) c.in-Some.is in
    let has : FirstHas (rank c.args.end) ((shown_range_entry rank g.VC.ValueCarrier.shown c.in-Some.field-0) ∷ (g.I.SortedDisjointMap.left c.self.inside.rest)) = ((lt_fails _ _ (sym c.is_below.ensures ∙ c.if-is_below.false)), subst (Reaches (rank c.args.end)) is c.requires) in
    let same = ap (λ h. ahead_of rank g.VC.ValueCarrier.shown h (g.I.SortedDisjointMap.left c.self.inside.rest)) (sym c.in-Some-replace.ensures.value) in
    let there = at_has (rank c.args.end) _ (g.I.SortedDisjointMap.left c.self.inside.rest) (shown_range_entry rank g.VC.ValueCarrier.shown c.in-Some-replace.field-0) (is ∙ same) (subst (FirstHas (rank c.args.end)) same has) in
    λ can. subst (λ o. SameOption eq o (Some (g.VC.ValueCarrier.shown c.in-Some-replace.field-0.value))) (sym there) (g.met.VC.Value.Eq.laws.refl _)

pub returns-clause-rest : goal.returns-clause-rest
returns-clause-rest g c =
    let rank = g.T.Integer.rank in
    let eq = g.VC.Value.PartialEq.eq in
    let is = sym c.self.view_is ∙ ap (λ h. ahead_of rank g.VC.ValueCarrier.shown h (g.I.SortedDisjointMap.left c.self.inside.rest)) c.in-Some.is in
    let canonical = subst (IsCanonical eq) (ap (λ h. ahead_of rank g.VC.ValueCarrier.shown h (g.I.SortedDisjointMap.left c.self.inside.rest)) c.in-Some.is) c.self.invariant.1 in
    let reached = subst (Reaches (rank c.args.end)) is c.requires in
    rw c.replace.ensures.after (c.take_first-next.ensures.left ∙ first_gone eq (rank c.args.end) (shown_range_entry rank g.VC.ValueCarrier.shown c.in-Some.field-0) (g.I.SortedDisjointMap.left c.self.inside.rest) canonical reached (lt_fails _ _ (sym c.is_below-2.ensures ∙ c.if-is_below-2.false)) ∙ ap (after (rank c.args.end)) (sym is))
