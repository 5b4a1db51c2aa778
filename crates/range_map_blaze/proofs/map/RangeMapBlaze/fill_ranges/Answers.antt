use Rattle.range_map_blaze.proofs.Words.{◌≡◌, ℤ, Bool, List, Result, OnErr, Entry, if_err, [], ◌++◌, ◌∷◌, ◌∙◌, refl, sym, ap, append-nil, append_assoc, subst, IsFinite, shown_range, counted_none, counted_then, IsFilledFrom}
use Rattle.range_map_blaze.specs.FilledFrom.{IsPartlyFilledFrom}
use Rattle.range_map_blaze.proofs.Paints.FilledFrom.{filled_from_none, filled_from_more}
use Rattle.range_map_blaze.proofs.Paints.Insides.{with_key}
use Rattle.range_map_blaze.proofs.map.RangeMapBlaze.fill_ranges.Goals as goal

-- the entries up to some of them, where a call fails that changes nothing
part_filled : {V A E : Type 0} (eq : V → V → Bool) (low high : ℤ) (all done rest old now new : List (Entry V)) (r : Result A E) → all ≡ done ++ rest → IsFilledFrom eq low high done old now → new ≡ now → OnErr r (IsPartlyFilledFrom eq low high all old new)
part_filled eq low high all done rest old now new r p q same = if_err r (record { done = done; rest = rest; parts = p; filled = subst (IsFilledFrom eq low high done old) (sym same) q })

pub loop-range-smaller : goal.loop-range-smaller
loop-range-smaller g c = (c.in-Some.ensures.goes.on c.loop-range.iterator.1).2

pub loop-range-init-derived : goal.loop-range-init-derived
loop-range-init-derived g c = (g.met.S.SortedDisjointMap.ready _, subst IsFinite (sym (g.met.S.SortedDisjointMap.counted _)) tt)

pub loop-range-init : goal.loop-range-init
loop-range-init g c = (
  [],
  ap g.S.SortedDisjointMap.left (sym c.into_iter-range-iterator.ensures.into_iter_gives),
  filled_from_none g.V.PartialEq.eq g.met.V.Eq.laws g.T.Integer.low g.T.Integer.high _ c.in_hand.ensures,
  counted_none _,
)

pub fill-requires-clause-order : goal.fill-requires-clause-order
fill-requires-clause-order g c =
    let i = c.loop-range.invariant in
    let e = shown_range g.T.Integer.rank g.VC.ValueCarrier.shown (c.in-Some.range, c.in-Some.carrier) in
    let took = g.met.S.SortedDisjointMap.gives _ _ _ c.in-Some.ensures.steps in
    rw (c.into_inner-start.ensures.start, c.into_inner-start.ensures.end)
    (with_key g.V.PartialEq.eq g.met.V.Eq.laws g.T.Integer.low g.T.Integer.high i.0 e _ _ (i.1 ∙ ap (λ es. i.0 ++ es) took) c.in_hand-2.ensures)

pub loop-range-preserved : goal.loop-range-preserved
loop-range-preserved g c =
    let i = c.loop-range.invariant in
    let e = shown_range g.T.Integer.rank g.VC.ValueCarrier.shown (c.in-Some.range, c.in-Some.carrier) in
    let took = g.met.S.SortedDisjointMap.gives _ _ _ c.in-Some.ensures.steps in (
      i.0 ++ e ∷ [],
      i.1 ∙ ap (λ es. i.0 ++ es) took ∙ sym (append_assoc i.0 (e ∷ []) _),
      filled_from_more g.V.PartialEq.eq g.met.V.Eq.laws g.T.Integer.low g.T.Integer.high c.args.self.now.entries e c.in_ok-into_value.field-0 i.0 c.loop-range.self.entries c.fill.new.self.entries c.in_hand.ensures i.2
          (rw (c.into_inner-start.ensures.start, c.into_inner-start.ensures.end) at c.in_ok-fill.ensures.ok) c.in_ok-into_value.ensures,
      counted_then _ _ _ i.3 c.fill.ensures.counted,
    )

pub returns-clause-ok : goal.returns-clause-ok
returns-clause-ok g c =
    let i = c.loop-range.invariant in
    let all = i.1 ∙ ap (λ es. i.0 ++ es) (g.met.S.SortedDisjointMap.gives _ _ _ c.in-None.ensures.steps).0 ∙ append-nil i.0 in
    subst (λ es. IsFilledFrom g.V.PartialEq.eq g.T.Integer.low g.T.Integer.high es c.args.self.now.entries c.loop-range.self.entries) (sym all) i.2

pub returns-in_err-into_value-clause-err : goal.returns-in_err-into_value-clause-err
returns-in_err-into_value-clause-err g c =
    let i = c.loop-range.invariant in
    part_filled g.V.PartialEq.eq g.T.Integer.low g.T.Integer.high (g.S.SortedDisjointMap.left c.args.ranges) i.0 (g.S.SortedDisjointMap.left c.loop-range.range-iterator)
    c.args.self.now.entries c.loop-range.self.entries c.loop-range.self.entries c.from_residual.result i.1 i.2 refl

pub returns-in_err-into_value-clause-counted : goal.returns-in_err-into_value-clause-counted
returns-in_err-into_value-clause-counted g c = c.loop-range.invariant.3

pub returns-in_err-fill-clause-err : goal.returns-in_err-fill-clause-err
returns-in_err-fill-clause-err g c =
    let i = c.loop-range.invariant in
    part_filled g.V.PartialEq.eq g.T.Integer.low g.T.Integer.high (g.S.SortedDisjointMap.left c.args.ranges) i.0 (g.S.SortedDisjointMap.left c.loop-range.range-iterator)
    c.args.self.now.entries c.loop-range.self.entries c.fill.new.self.entries c.from_residual-in_err-fill.result i.1 i.2 c.in_err-fill.ensures.err

pub returns-in_err-fill-clause-counted : goal.returns-in_err-fill-clause-counted
returns-in_err-fill-clause-counted g c = counted_then c.args.self.now c.loop-range.self c.fill.new.self c.loop-range.invariant.3 c.fill.ensures.counted
