use Rattle.range_map_multi.proofs.Words.{◌∙◌, ◌≤ℤ◌, [], ◌∷◌, refl, ap, arith, is_some, list_all, ints, entry, glue, shown_ranges, shown_full_row}
use Rattle.range_map_multi.proofs.AnsweredRows.{none_takes, none_joined}
use Rattle.range_map_multi.proofs.row_answers.inner_answers_of_none.Goals as goal

pub f-answer-requires : goal.f-answer-requires
f-answer-requires g c =
    let full : g.T.Integer.low ≤ℤ g.T.Integer.high = omega (arith, ints, c.in_hand.ensures.from, c.in_hand.ensures.to) in
    none_takes (λ a. shown_full_row g.S.Shows.shown a.0.now) g.F.FnMut g.S.Value.PartialEq.eq g.W.PartialEq.eq g.T.Integer.low g.T.Integer.high (list_all is_some) c.args.f g.met.S.Value.Eq.laws full refl c.requires.callable _
    (ap (shown_full_row g.S.Shows.shown) (c.deref.ensures.value ∙ c.new-row.ensures.items))

pub new-requires : goal.new-requires
new-requires g c =
    let rank = g.T.Integer.rank in
    let low = g.T.Integer.low in
    let high = g.T.Integer.high in
    let eq = g.W.PartialEq.eq in
    let shown = g.S.Shows.shown in
    let full : low ≤ℤ high = omega (arith, ints, c.in_hand.ensures.from, c.in_hand.ensures.to) in
    let answer = c.f-answer.result in
    let last = rank c.max_value-last.result in
    let put = c.in_ok-push_joined.ensures.ok
    ∙ ap (λ l. glue eq (shown_ranges rank (λ o. o.0) l) (entry (rank c.min_value-first.result) last answer ∷ [])) c.new-out.ensures.items
    ∙ ap (λ l. entry l last answer ∷ []) c.min_value-first.ensures ∙ ap (λ h. entry low h answer ∷ []) c.max_value-last.ensures in
    let joined = none_joined (λ a. shown_full_row shown a.0.now) g.F.FnMut g.S.Value.PartialEq.eq eq low high (list_all is_some) c.args.f g.met.S.Value.Eq.laws full refl g.met.W.Eq.laws _ answer _
    (record { arguments = _; shown = ap (shown_full_row shown) (c.deref.ensures.value ∙ c.new-row.ensures.items); called = c.f-answer.ensures }) put in
    record { range_map = joined.answered.range_map }

pub returns : goal.returns
returns g c =
    let rank = g.T.Integer.rank in
    let low = g.T.Integer.low in
    let high = g.T.Integer.high in
    let eq = g.W.PartialEq.eq in
    let shown = g.S.Shows.shown in
    let full : low ≤ℤ high = omega (arith, ints, c.in_hand.ensures.from, c.in_hand.ensures.to) in
    let answer = c.f-answer.result in
    let last = rank c.max_value-last.result in
    let put = c.in_ok-push_joined.ensures.ok
    ∙ ap (λ l. glue eq (shown_ranges rank (λ o. o.0) l) (entry (rank c.min_value-first.result) last answer ∷ [])) c.new-out.ensures.items
    ∙ ap (λ l. entry l last answer ∷ []) c.min_value-first.ensures ∙ ap (λ h. entry low h answer ∷ []) c.max_value-last.ensures in
    let joined = none_joined (λ a. shown_full_row shown a.0.now) g.F.FnMut g.S.Value.PartialEq.eq eq low high (list_all is_some) c.args.f g.met.S.Value.Eq.laws full refl g.met.W.Eq.laws _ answer _
    (record { arguments = _; shown = ap (shown_full_row shown) (c.deref.ensures.value ∙ c.new-row.ensures.items); called = c.f-answer.ensures }) put in
    rw c.new.ensures joined
