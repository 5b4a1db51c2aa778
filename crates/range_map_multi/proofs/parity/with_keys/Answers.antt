use Rattle.range_map_multi.proofs.Words.{◌≡◌, ◌∙◌, ◌+◌, length, nat_eq, sym, ap, subst, arith, IsFinite, length_push, IsRangeMap, shown_range, in_places, taken_more, taken_all}
use Rattle.range_map_multi.proofs.Placed.{place_more, range_map_places}
use Rattle.range_map_multi.proofs.parity.with_keys.Goals as goal

pub loop-item-init-derived : goal.loop-item-init-derived
loop-item-init-derived g c = (g.met.I.SortedDisjointMap.ready _, subst IsFinite (sym (g.met.I.SortedDisjointMap.counted _)) tt)

pub loop-item-preserved : goal.loop-item-preserved
loop-item-preserved g c =
    let rank = g.T.Integer.rank in
    let shown = g.VC.ValueCarrier.shown in
    let i = c.loop-item.invariant in
    let item = c.in-Some.item in
    let old = c.loop-item.items in
    let step = g.met.I.SortedDisjointMap.gives _ _ _ c.in-Some.ensures.steps in
    let grown : length c.push-in-loop-item.new.self.items ≡ length old.items + 1 = ap length c.in_ok-push-2.ensures.items ∙ length_push old.items item in (
      taken_more (shown_range rank shown) _ _ item _ _ _ c.in_ok-push-2.ensures.items step i.0,
      taken_more (shown_range rank (λ p. p)) _ _ (c.new.result, c.len.result) _ _ _ c.in_ok-push.ensures.items
          (place_more (length old.items) _ (shown_range rank shown item) (shown_range rank (λ p. p) (c.new.result, c.len.result)) _ _ step
          (ap rank (c.new.ensures.start ∙ c.start-first.ensures)) (ap rank (c.new.ensures.end ∙ c.end-last.ensures)) (omega (arith, c.len.ensures, old.ok.0)) grown) i.1,
    )

pub new-requires-2 : goal.new-requires-2
new-requires-2 g c = record {
  range_map =
      subst (IsRangeMap g.VC.Value.PartialEq.eq g.T.Integer.low g.T.Integer.high)
      (sym (taken_all _ _ _ c.loop-item.invariant.0 (g.met.I.SortedDisjointMap.gives _ _ _ c.in-None.ensures.steps).0)) c.in_hand.ensures;
}

pub new-requires-3 : goal.new-requires-3
new-requires-3 g c = record {
  range_map =
      subst (IsRangeMap nat_eq g.T.Integer.low g.T.Integer.high)
      (sym (taken_all _ _ _ c.loop-item.invariant.1 (ap (in_places (length c.loop-item.items.items)) (g.met.I.SortedDisjointMap.gives _ _ _ c.in-None.ensures.steps).0)))
      (range_map_places g.VC.Value.PartialEq.eq g.met.VC.Value.Eq.laws g.T.Integer.low g.T.Integer.high _ c.in_hand.ensures);
}

pub returns-clause-list : goal.returns-clause-list
returns-clause-list g c = c.new-2.ensures ∙ taken_all _ _ _ c.loop-item.invariant.0 (g.met.I.SortedDisjointMap.gives _ _ _ c.in-None.ensures.steps).0

pub returns-clause-keys : goal.returns-clause-keys
returns-clause-keys g c =
    c.new-3.ensures ∙ taken_all _ _ _ c.loop-item.invariant.1 (ap (in_places (length c.loop-item.items.items)) (g.met.I.SortedDisjointMap.gives _ _ _ c.in-None.ensures.steps).0)
