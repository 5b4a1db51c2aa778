use Rattle.blaze_streams.proofs.Words.{◌∙◌, sym, subst, IsFinite, IsRangeMap, shown_range}
use Rattle.blaze_streams.proofs.ItemsTaken.{taken_more, taken_all}
use Rattle.blaze_streams.proofs.merge.list_of.list_of.Goals as goal

pub loop-item-init-derived : goal.loop-item-init-derived
loop-item-init-derived g c = (g.met.I.SortedDisjointMap.ready _, subst IsFinite (sym (g.met.I.SortedDisjointMap.counted _)) tt)

pub loop-item-preserved : goal.loop-item-preserved
loop-item-preserved g c =
    taken_more (shown_range g.T.Integer.rank g.VC.ValueCarrier.shown) _ _ c.in-Some.item _ _ _ c.in_ok-push.ensures.items
    (g.met.I.SortedDisjointMap.gives _ _ _ c.in-Some.ensures.steps) c.loop-item.invariant

pub new-requires : goal.new-requires
new-requires g c = record {
  range_map =
      subst (IsRangeMap g.VC.Value.PartialEq.eq g.T.Integer.low g.T.Integer.high)
      (sym (taken_all _ _ _ c.loop-item.invariant (g.met.I.SortedDisjointMap.gives _ _ _ c.in-None.ensures.steps).0)) c.in_hand.ensures;
}

pub returns : goal.returns
returns g c = c.new.ensures ∙ taken_all _ _ _ c.loop-item.invariant (g.met.I.SortedDisjointMap.gives _ _ _ c.in-None.ensures.steps).0
