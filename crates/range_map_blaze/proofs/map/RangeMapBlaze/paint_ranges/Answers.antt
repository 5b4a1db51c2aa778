use Rattle.range_map_blaze.proofs.Words.{[], ◌++◌, ◌∷◌, ◌∙◌, refl, sym, ap, append-nil, append_assoc, subst, IsFinite, shown_range, counted_none, counted_then, ArePaintedInTurn}
use Rattle.range_map_blaze.proofs.Paints.InTurn.{in_turn_more}
use Rattle.range_map_blaze.proofs.map.RangeMapBlaze.paint_ranges.Goals as goal

pub loop-range-smaller : goal.loop-range-smaller
loop-range-smaller g c = (c.in-Some.ensures.goes.on c.loop-range.iterator.1).2

pub loop-range-init-derived : goal.loop-range-init-derived
loop-range-init-derived g c = (g.met.S.SortedDisjointMap.ready _, subst IsFinite (sym (g.met.S.SortedDisjointMap.counted _)) tt)

pub loop-range-init : goal.loop-range-init
loop-range-init g c = (
  [],
  ap g.S.SortedDisjointMap.left (sym c.into_iter-range-iterator.ensures.into_iter_gives),
  refl,
  counted_none _,
)

pub loop-range-preserved : goal.loop-range-preserved
loop-range-preserved g c =
    let i = c.loop-range.invariant in
    let e = shown_range g.T.Integer.rank g.VC.ValueCarrier.shown (c.in-Some.range, c.in-Some.carrier) in
    let took = g.met.S.SortedDisjointMap.gives _ _ _ c.in-Some.ensures.steps in (
      i.0 ++ e ∷ [],
      i.1 ∙ ap (λ es. i.0 ++ es) took ∙ sym (append_assoc i.0 (e ∷ []) _),
      in_turn_more g.V.PartialEq.eq g.met.V.Eq.laws g.T.Integer.low g.T.Integer.high i.0 e c.args.self.now.entries c.loop-range.self.entries c.paint_range.new.self.entries i.2 c.in_ok-paint_range.ensures.ok,
      counted_then _ _ _ i.3 c.paint_range.ensures.counted,
    )

pub returns-clause-ok : goal.returns-clause-ok
returns-clause-ok g c =
    let i = c.loop-range.invariant in
    let all = i.1 ∙ ap (λ es. i.0 ++ es) (g.met.S.SortedDisjointMap.gives _ _ _ c.in-None.ensures.steps).0 ∙ append-nil i.0 in
    subst (λ es. ArePaintedInTurn g.V.PartialEq.eq g.T.Integer.low g.T.Integer.high es c.args.self.now.entries c.loop-range.self.entries) (sym all) i.2
