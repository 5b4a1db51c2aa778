use Rattle.range_map_cli.proofs.Words.{rules, ◌≡◌, ◌++◌, ◌∷◌, ◌∙◌, [], length, inl, inr, refl, sym, ap, subst, arith, append_assoc, nil_from_length, into_iter_items, counted_none}
use Rattle.std.proofs.lemmas.List.{length-append}
use Rattle.range_map_cli.proofs.Stepping.Filling.{few_filled}
use Rattle.range_map_cli.proofs.Stepping.Running.{IsRunning, all_done, counted_run, refused_at, refused_counted, running_more, running_none}
use Rattle.range_map_cli.proofs.steps.run.Goals as goal

pub returns-in_default-clause-refused : goal.returns-in_default-clause-refused
returns-in_default-clause-refused g c =
    refused_at g.V.PartialEq.eq g.T.Integer.rank _ _ [] c.args.steps.items c.args.steps.items 0 _ _ _ refl refl (inr refl)
    (running_none g.V.PartialEq.eq g.met.V.Eq.laws g.T.Integer.rank _ _ c.args.map.now c.in_hand.ensures)

pub returns-in_default-clause-counted : goal.returns-in_default-clause-counted
returns-in_default-clause-counted g c = λ edits. (tt, counted_none c.args.map.now)

pub loop-step-init : goal.loop-step-init
loop-step-init g c = (
  [],
  search rules,
  rw c.in-Ok.ensures.items (running_none g.V.PartialEq.eq g.met.V.Eq.laws g.T.Integer.rank _ _ c.args.map.now c.in_hand.ensures),
  search rules,
  search rules,
)

pub returns-in_default-take_step-clause-refused : goal.returns-in_default-take_step-clause-refused
returns-in_default-take_step-clause-refused g c =
    let i = c.loop-step.invariant in
    let split : into_iter_items c.loop-step.step-iterator ≡ c.in-Some.step ∷ into_iter_items c.next.new.self = search rules in
    rw c.in_default-take_step.ensures.err (refused_at g.V.PartialEq.eq g.T.Integer.rank _ _ i.0 (c.in-Some.step ∷ into_iter_items c.next.new.self) c.args.steps.items c.len-in_default-take_step.result c.args.map.now c.loop-step.map
    c.loop-step.answers.items (i.1 ∙ ap (λ ss. i.0 ++ ss) split) (c.len-in_default-take_step.ensures ∙ i.3) (inl (omega arith)) i.2)

pub returns-in_default-take_step-clause-counted : goal.returns-in_default-take_step-clause-counted
returns-in_default-take_step-clause-counted g c = λ edits.
    let i = c.loop-step.invariant in
    let split : into_iter_items c.loop-step.step-iterator ≡ c.in-Some.step ∷ into_iter_items c.next.new.self = search rules in (
      tt,
      refused_counted g.V.PartialEq.eq g.T.Integer.rank _ _ i.0 (into_iter_items c.next.new.self) c.args.steps.items c.in-Some.step c.args.map.now c.loop-step.map c.take_step.new.map c.loop-step.answers.items
          (i.1 ∙ ap (λ ss. i.0 ++ ss) split) i.2 c.in_default-take_step.ensures.err_counted edits,
    )

pub push_reserved-requires : goal.push_reserved-requires
push_reserved-requires g c =
    let i = c.loop-step.invariant in
    let split : into_iter_items c.loop-step.step-iterator ≡ c.in-Some.step ∷ into_iter_items c.next.new.self = search rules in
    omega (arith, i.3, i.4, ap length (i.1 ∙ ap (λ ss. i.0 ++ ss) split) ∙ length-append i.0 (c.in-Some.step ∷ into_iter_items c.next.new.self))

pub loop-step-preserved : goal.loop-step-preserved
loop-step-preserved g c =
    let i = c.loop-step.invariant in
    let split : into_iter_items c.loop-step.step-iterator ≡ c.in-Some.step ∷ into_iter_items c.next.new.self = search rules in (
      i.0 ++ c.in-Some.step ∷ [],
      i.1 ∙ ap (λ ss. i.0 ++ ss) split ∙ sym (append_assoc i.0 (c.in-Some.step ∷ []) _),
      subst (λ given. IsRunning g.V.PartialEq.eq g.T.Integer.rank g.T.Integer.low g.T.Integer.high (i.0 ++ c.in-Some.step ∷ []) c.args.map.now c.take_step.new.map given) (sym c.push_reserved.ensures.items)
          (running_more g.V.PartialEq.eq g.met.V.Eq.laws g.T.Integer.rank _ _ i.0 c.in-Some.step _ c.loop-step.map c.take_step.new.map _ c.in-Ok-take_step.answer i.2
          c.in-Ok-take_step.ensures.stepped c.in-Ok-take_step.ensures.answer c.in-Ok-take_step.ensures.counted c.in-Ok-take_step.ensures.alone),
      omega (arith, c.push_reserved.ensures.len, i.3, length-append i.0 (c.in-Some.step ∷ [])),
      omega (arith, c.push_reserved.ensures.capacity, i.4),
    )

pub returns-clause-stepped : goal.returns-clause-stepped
returns-clause-stepped g c =
    let i = c.loop-step.invariant in
    let none : into_iter_items c.loop-step.step-iterator ≡ [] = nil_from_length (into_iter_items c.loop-step.step-iterator) (sym c.loop-step.step-iterator.rest.ok.0 ∙ c.in-None.ensures.steps.0) in
    let ran = all_done g.V.PartialEq.eq g.T.Integer.rank g.T.Integer.low g.T.Integer.high i.0 _ c.args.steps.items c.args.map.now c.loop-step.map c.loop-step.answers.items i.1 none i.2 in
    ran.stepped

pub returns-clause-answers : goal.returns-clause-answers
returns-clause-answers g c =
    let i = c.loop-step.invariant in
    let none : into_iter_items c.loop-step.step-iterator ≡ [] = nil_from_length (into_iter_items c.loop-step.step-iterator) (sym c.loop-step.step-iterator.rest.ok.0 ∙ c.in-None.ensures.steps.0) in
    let ran = all_done g.V.PartialEq.eq g.T.Integer.rank g.T.Integer.low g.T.Integer.high i.0 _ c.args.steps.items c.args.map.now c.loop-step.map c.loop-step.answers.items i.1 none i.2 in
    ran.answered

pub returns-clause-counted : goal.returns-clause-counted
returns-clause-counted g c =
    let i = c.loop-step.invariant in
    let none : into_iter_items c.loop-step.step-iterator ≡ [] = nil_from_length (into_iter_items c.loop-step.step-iterator) (sym c.loop-step.step-iterator.rest.ok.0 ∙ c.in-None.ensures.steps.0) in
    let ran = all_done g.V.PartialEq.eq g.T.Integer.rank g.T.Integer.low g.T.Integer.high i.0 _ c.args.steps.items c.args.map.now c.loop-step.map c.loop-step.answers.items i.1 none i.2 in
    λ edits. (counted_run _ _ _ (ran.counted edits), tt)

pub returns-clause-few : goal.returns-clause-few
returns-clause-few g c =
    let i = c.loop-step.invariant in
    let none : into_iter_items c.loop-step.step-iterator ≡ [] = nil_from_length (into_iter_items c.loop-step.step-iterator) (sym c.loop-step.step-iterator.rest.ok.0 ∙ c.in-None.ensures.steps.0) in
    let ran = all_done g.V.PartialEq.eq g.T.Integer.rank g.T.Integer.low g.T.Integer.high i.0 _ c.args.steps.items c.args.map.now c.loop-step.map c.loop-step.answers.items i.1 none i.2 in
    ran.few

pub returns-clause-few_filled : goal.returns-clause-few_filled
returns-clause-few_filled g c =
    let i = c.loop-step.invariant in
    let none : into_iter_items c.loop-step.step-iterator ≡ [] = nil_from_length (into_iter_items c.loop-step.step-iterator) (sym c.loop-step.step-iterator.rest.ok.0 ∙ c.in-None.ensures.steps.0) in
    let ran = all_done g.V.PartialEq.eq g.T.Integer.rank g.T.Integer.low g.T.Integer.high i.0 _ c.args.steps.items c.args.map.now c.loop-step.map c.loop-step.answers.items i.1 none i.2 in
    λ fills empty. few_filled g.V.PartialEq.eq g.met.V.Eq.laws g.T.Integer.rank _ _ c.args.steps.items c.args.map.now.entries _ fills empty ran.stepped

-- the list is canonical at each end, so it is the only shortest
pub returns-in_default-clause-shortest : goal.returns-in_default-clause-shortest
returns-in_default-clause-shortest g c = c.canonical_is_shortest.ensures _ c.in_hand.ensures.runs

pub returns-in_default-take_step-clause-shortest : goal.returns-in_default-take_step-clause-shortest
returns-in_default-take_step-clause-shortest g c = rw c.in_default-take_step.ensures.err (c.canonical_is_shortest.ensures _ c.loop-step.invariant.2.stepped.range_map.runs)

pub returns-clause-shortest : goal.returns-clause-shortest
returns-clause-shortest g c = c.canonical_is_shortest.ensures _ c.loop-step.invariant.2.stepped.range_map.runs
