use Rattle.range_map_blaze.proofs.Words.{List, if_err, ◌≡◌, [], ◌++◌, ◌∷◌, ◌∙◌, sym, ap, append-nil, append_assoc, subst, options_equiv, option_eq, nil_from_length, into_iter_items, IsCanonical, shown_entry, shown_list, canonical, counted_none, counted_then, AreEdited}
use Rattle.range_map_blaze.proofs.Edits.Applied.{edited_none, edited_more}
use Rattle.range_map_blaze.proofs.Paints.Insides.{with_key}
use Rattle.range_map_blaze.proofs.map.RangeMapBlaze.apply_edits.Goals as goal

pub loop-start-init : goal.loop-start-init
loop-start-init g c = (
  tt,
  tt,
  (
    [],
    ap (shown_list g.T.Integer.rank) (sym c.into_iter-start-iterator.ensures.into_iter_gives.0),
    edited_none g.V.PartialEq.eq g.met.V.Eq.laws g.T.Integer.low g.T.Integer.high _ c.in_hand.ensures,
    counted_none _,
  ),
)

pub apply_edit-requires-clause-order : goal.apply_edit-requires-clause-order
apply_edit-requires-clause-order g c =
    let rank = g.T.Integer.rank in
    let i = c.loop-start.invariant.2 in
    with_key (option_eq g.V.PartialEq.eq) (options_equiv g.met.V.Eq.laws) g.T.Integer.low g.T.Integer.high i.0 (shown_entry rank (λ v. v) (c.in-Some.start, c.in-Some.end, c.in-Some.value)) _ _
    (i.1 ∙ ap (λ xs. i.0 ++ shown_list rank xs) c.in-Some.ensures.steps.0) c.requires.edits

pub loop-start-preserved : goal.loop-start-preserved
loop-start-preserved g c =
    let rank = g.T.Integer.rank in
    let eq = g.V.PartialEq.eq in
    let i = c.loop-start.invariant.2 in
    let e = shown_entry rank (λ v. v) (c.in-Some.start, c.in-Some.end, c.in-Some.value) in
    let parts = i.1 ∙ ap (λ xs. i.0 ++ shown_list rank xs) c.in-Some.ensures.steps.0 in
    let laws = options_equiv g.met.V.Eq.laws in
    let whole = subst (IsCanonical (option_eq eq)) parts (canonical (option_eq eq) laws _ c.requires.edits.runs) in (
      tt,
      tt,
      (
        i.0 ++ e ∷ [],
        parts ∙ sym (append_assoc i.0 (e ∷ []) _),
        edited_more eq g.met.V.Eq.laws g.T.Integer.low g.T.Integer.high e i.0 _ c.args.self.now.entries c.loop-start.self.entries c.apply_edit.new.self.entries whole i.2 c.in_ok-apply_edit.ensures.ok,
        counted_then _ _ _ i.3 c.apply_edit.ensures.counted,
      ),
    )

pub returns-in_err-apply_edit-clause-err : goal.returns-in_err-apply_edit-clause-err
returns-in_err-apply_edit-clause-err g c =
    let i = c.loop-start.invariant.2 in
    if_err c.from_residual.result (record {
      done = i.0;
      rest = _;
      parts = i.1;
      edited = subst (AreEdited g.V.PartialEq.eq g.T.Integer.low g.T.Integer.high i.0 c.args.self.now.entries) (sym c.in_err-apply_edit.ensures.err) i.2;
    })

pub returns-in_err-apply_edit-clause-counted : goal.returns-in_err-apply_edit-clause-counted
returns-in_err-apply_edit-clause-counted g c = counted_then _ _ _ c.loop-start.invariant.2.3 c.apply_edit.ensures.counted

pub returns-clause-ok : goal.returns-clause-ok
returns-clause-ok g c =
    let i = c.loop-start.invariant.2 in
    let none : into_iter_items c.loop-start.start-iterator ≡ [] = nil_from_length (into_iter_items c.loop-start.start-iterator) (sym c.loop-start.start-iterator.rest.ok.0 ∙ c.in-None.ensures.steps.0) in
    let all = i.1 ∙ ap (λ xs. i.0 ++ shown_list g.T.Integer.rank xs) none ∙ append-nil i.0 in
    subst (λ es. AreEdited g.V.PartialEq.eq g.T.Integer.low g.T.Integer.high es c.args.self.now.entries c.loop-start.self.entries) (sym all) i.2

pub returns-clause-counted : goal.returns-clause-counted
returns-clause-counted g c = c.loop-start.invariant.2.3

-- without edits no call is made
pub returns-in_err-apply_edit-clause-none : goal.returns-in_err-apply_edit-clause-none
returns-in_err-apply_edit-clause-none g c = λ none.
    let rank = g.T.Integer.rank in
    let i = c.loop-start.invariant.2 in
    let parts = i.1 ∙ ap (λ xs. i.0 ++ shown_list rank xs) c.in-Some.ensures.steps.0 in
    absurd (some_left i.0 _ _ (sym parts ∙ none))
  where
    some_left : {A : Type 0} (xs : List A) (x : A) (ys : List A) → xs ++ x ∷ ys ≡ [] → ⊥
    some_left [] x ys p = cc
    some_left (y ∷ xs) x ys p = cc
