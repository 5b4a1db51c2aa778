use Rattle.range_map_blaze.proofs.Words.{[], ◌++◌, ◌∷◌, ◌∙◌, refl, sym, ap, append-nil, append_assoc, subst, IsFinite, IfOk-weaker, shown_range, ArePaintedInTurn}
use Rattle.range_map_blaze.proofs.Paints.InTurn.{in_turn_more}
use Rattle.range_map_blaze.proofs.Paints.PaintedOver.{painted_over, painted_then}
use Rattle.range_map_blaze.proofs.Paints.Paintings.{in_turn}
use Rattle.range_map_blaze.proofs.Unions.{union_of}
use Rattle.range_map_blaze.proofs.operators.union.painted_over.Goals as goal

pub loop-range-init : goal.loop-range-init
loop-range-init g c = (g.met.S.SortedDisjointMap.ready _, subst IsFinite (sym (g.met.S.SortedDisjointMap.counted _)) tt, ([], refl, refl))

pub loop-range-preserved : goal.loop-range-preserved
loop-range-preserved g c =
    let i = c.loop-range.invariant.2 in
    let e = shown_range g.T.Integer.rank g.VC.ValueCarrier.shown (c.in-Some.range, c.in-Some.carrier) in
    let took = g.met.S.SortedDisjointMap.gives _ _ _ c.in-Some.ensures.steps in (
      g.met.S.SortedDisjointMap.ready _,
      subst IsFinite (sym (g.met.S.SortedDisjointMap.counted _)) tt,
      (
        i.0 ++ e ∷ [],
        i.1 ∙ ap (λ es. i.0 ++ es) took ∙ sym (append_assoc i.0 (e ∷ []) _),
        in_turn_more g.V.PartialEq.eq g.met.V.Eq.laws g.T.Integer.low g.T.Integer.high i.0 e c.args.left.entries c.loop-range.map.entries c.paint_range.new.self.entries i.2 c.in_ok-paint_range.ensures.ok,
      ),
    )

pub returns-then-ranges_len-least : goal.returns-then-ranges_len-least
returns-then-ranges_len-least g c =
    let i = c.loop-range.invariant.2 in
    let e = shown_range g.T.Integer.rank g.VC.ValueCarrier.shown (c.in-Some.range, c.in-Some.carrier) in
    let took = g.met.S.SortedDisjointMap.gives _ _ _ c.in-Some.ensures.steps in
    let parts = i.1 ∙ ap (λ es. i.0 ++ es) took ∙ sym (append_assoc i.0 (e ∷ []) _) in
    let done = in_turn_more g.V.PartialEq.eq g.met.V.Eq.laws g.T.Integer.low g.T.Integer.high i.0 e c.args.left.entries c.loop-range.map.entries c.paint_range.new.self.entries i.2 c.in_ok-paint_range.ensures.ok in
    let extended = in_turn g.V.PartialEq.eq g.met.V.Eq.laws _ _ _ _ _ c.in_hand.ensures done in
    IfOk-weaker c.merged_over.result _ _
    (λ map union. union_of g.V.PartialEq.eq g.met.V.Eq.laws _ _ _ _ _ c.in_hand.ensures c.in_hand-2.ensures
    (painted_then g.V.PartialEq.eq g.met.V.Eq.laws _ _ _ _ _ _ _ _ parts c.in_hand-2.ensures c.in_hand-then-ranges_len-least.ensures extended union.chosen)) c.merged_over.ensures

pub returns : goal.returns
returns g c =
    let i = c.loop-range.invariant.2 in
    let all = i.1 ∙ ap (λ es. i.0 ++ es) (g.met.S.SortedDisjointMap.gives _ _ _ c.in_default.ensures.steps).0 ∙ append-nil i.0 in
    let extended = in_turn g.V.PartialEq.eq g.met.V.Eq.laws _ _ _ _ _ c.in_hand.ensures (subst (λ es. ArePaintedInTurn g.V.PartialEq.eq g.T.Integer.low g.T.Integer.high es c.args.left.entries c.loop-range.map.entries) (sym all) i.2) in
    record { chosen = painted_over g.V.PartialEq.eq g.met.V.Eq.laws _ _ _ _ _ c.in_hand-2.ensures extended; few = extended.few }
