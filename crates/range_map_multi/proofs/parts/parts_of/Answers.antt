use Rattle.range_map_multi.proofs.Words.{◌≡◌, ◌∙◌, ◌+◌, length, nat_eq, refl, sym, ap, subst, arith, IsFinite, length_push, IsRangeMap, values, shown_range, in_places, taken_more, taken_all}
use Rattle.range_map_multi.proofs.Placed.{place_more, placed_all, range_map_places}
use Rattle.range_map_multi.proofs.parts.parts_of.Goals as goal

pub loop-item-init-derived : goal.loop-item-init-derived
loop-item-init-derived g c = (g.met.I.SortedDisjointMap.ready _, subst IsFinite (sym (g.met.I.SortedDisjointMap.counted _)) tt)

pub loop-item-preserved : goal.loop-item-preserved
loop-item-preserved g c =
    let rank = g.T.Integer.rank in
    let shown = g.VC.ValueCarrier.shown in
    let i = c.loop-item.invariant in
    let old = c.loop-item.carriers in
    let step = g.met.I.SortedDisjointMap.gives _ _ _ c.in-Some.ensures.steps in
    let grown : length c.push-in-loop-item.new.self.items ≡ length old.items + 1 = ap length c.in_ok-push-2.ensures.items ∙ length_push old.items c.in-Some.item.1 in
    record {
      ranges = taken_more (shown_range rank (λ p. p)) _ _ _ _ _ _ c.in_ok-push.ensures.items
          (place_more (length old.items) _ (shown_range rank shown c.in-Some.item) _ _ _ step refl refl
          (omega (arith, c.len.ensures, old.ok.0)) grown) i.ranges;
      carriers = taken_more shown _ _ c.in-Some.item.1 _ _ _ c.in_ok-push-2.ensures.items (ap values step) i.carriers;
    }

pub new-ranges-requires-2 : goal.new-ranges-requires-2
new-ranges-requires-2 g c = record {
  range_map =
      subst (IsRangeMap nat_eq g.T.Integer.low g.T.Integer.high)
      (sym (taken_all _ _ _ c.loop-item.invariant.ranges (ap (in_places (length c.loop-item.carriers.items)) (g.met.I.SortedDisjointMap.gives _ _ _ c.in-None.ensures.steps).0)))
      (range_map_places g.VC.Value.PartialEq.eq g.met.VC.Value.Eq.laws g.T.Integer.low g.T.Integer.high _ c.in_hand.ensures);
}

pub returns-clause-placed : goal.returns-clause-placed
returns-clause-placed g c =
    let none = (g.met.I.SortedDisjointMap.gives _ _ _ c.in-None.ensures.steps).0 in
    placed_all _ _ _ (taken_all _ _ _ c.loop-item.invariant.carriers (ap values none))
    (c.new.ensures ∙ c.new-ranges-2.ensures ∙ taken_all _ _ _ c.loop-item.invariant.ranges (ap (in_places (length c.loop-item.carriers.items)) none))
