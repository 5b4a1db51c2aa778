use Rattle.blaze_streams.proofs.Words.{sym, ap, subst, IsFinite, shown_option, IsFilledWithNone, shown_range}
use Rattle.blaze_streams.proofs.Filled.{seen_more, filled_more, fill_made}
use Rattle.blaze_streams.proofs.GapLists.{rank_of_next}
use Rattle.blaze_streams.proofs.fills.fill.Goals as goal

pub loop-item-init-derived : goal.loop-item-init-derived
loop-item-init-derived g c = (g.met.S.SortedDisjointMap.ready _, subst IsFinite (sym (g.met.S.SortedDisjointMap.counted _)) tt)

pub loop-item-preserved : goal.loop-item-preserved
loop-item-preserved g c =
    let rank = g.T.Integer.rank in
    let high = g.T.Integer.high in
    filled_more high _ _ _ _ _ _ c.loop-item.invariant _ _ _ (shown_range rank g.VC.ValueCarrier.shown c.in-Some.item) _
    (g.met.S.SortedDisjointMap.gives _ _ _ c.in-Some.ensures.steps) (ap rank c.into_inner-start.ensures.start) (ap rank c.into_inner-start.ensures.end)
    c.in_ok-push_none.ensures (seen_more (shown_range rank (shown_option g.VC.ValueCarrier.shown)) _ _ _ _ c.in_ok-push.ensures.items (cc (c.new.ensures.start, c.new.ensures.end))) (rank_of_next rank high _ _ c.checked_add_one-next.ensures)

pub new-requires-2 : goal.new-requires-2
new-requires-2 g c = record {
  range_map =
      (fill_made g.VC.Value.PartialEq.eq g.met.VC.Value.Eq.laws g.T.Integer.low g.T.Integer.high _ c.in_hand.ensures _ _ _ _ c.loop-item.invariant (g.met.S.SortedDisjointMap.gives _ _ _ c.in-None.ensures.steps).0 c.in_ok-push_last.ensures).range_map;
}

pub returns : goal.returns
returns g c =
    subst (IsFilledWithNone g.VC.Value.PartialEq.eq g.T.Integer.low g.T.Integer.high (g.S.SortedDisjointMap.left c.args.stream)) (sym c.new-2.ensures)
    (fill_made g.VC.Value.PartialEq.eq g.met.VC.Value.Eq.laws g.T.Integer.low g.T.Integer.high _ c.in_hand.ensures _ _ _ _ c.loop-item.invariant (g.met.S.SortedDisjointMap.gives _ _ _ c.in-None.ensures.steps).0 c.in_ok-push_last.ensures)

pub loop-item-smaller : goal.loop-item-smaller
loop-item-smaller g c = (c.in-Some.ensures.goes.on c.loop-item.iterator.1).2
