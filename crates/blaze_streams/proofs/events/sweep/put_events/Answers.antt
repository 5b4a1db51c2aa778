use Rattle.blaze_streams.proofs.Words.{◌++◌, ◌∙◌, ap, subst, sym, append-nil, IsFinite, events_of, shown_events}
use Rattle.blaze_streams.proofs.Sweeps.{put_more}
use Rattle.blaze_streams.proofs.events.sweep.put_events.Goals as goal

pub loop-range-preserved : goal.loop-range-preserved
loop-range-preserved g c =
    put_more g.T.Integer.rank g.VC.ValueCarrier.shown c.args.input _ _ _ c.in-Some.range c.in-Some.value _ _ _ _ c.end-last.ensures c.in_ok-push.ensures.items c.in_ok-push-2.ensures.items
    (g.met.I.SortedDisjointMap.gives _ _ _ c.in-Some.ensures.steps) c.loop-range.invariant

pub loop-range-init-derived : goal.loop-range-init-derived
loop-range-init-derived g c = (g.met.I.SortedDisjointMap.ready _, subst IsFinite (sym (g.met.I.SortedDisjointMap.counted _)) tt)

pub loop-range-smaller : goal.loop-range-smaller
loop-range-smaller g c = (c.in-Some.ensures.goes.on c.loop-range.iterator.1).2

pub loop-range-init : goal.loop-range-init
loop-range-init g c =
    let shown = shown_events g.T.Integer.rank g.VC.ValueCarrier.shown in
    ap (λ stream. shown c.args.events.now.items ++ events_of c.args.input (g.I.SortedDisjointMap.left stream)) c.into_iter-range-iterator.ensures.into_iter_gives

pub loop-range-preserved-derived : goal.loop-range-preserved-derived
loop-range-preserved-derived g c = (g.met.I.SortedDisjointMap.ready _, subst IsFinite (sym (g.met.I.SortedDisjointMap.counted _)) tt)

pub returns-in_err-push-clause-range_map : goal.returns-in_err-push-clause-range_map
returns-in_err-push-clause-range_map g c = c.in_hand.ensures

pub returns-in_err-push-2-clause-range_map : goal.returns-in_err-push-2-clause-range_map
returns-in_err-push-2-clause-range_map g c = c.in_hand.ensures

pub returns-clause-range_map : goal.returns-clause-range_map
returns-clause-range_map g c = c.in_hand.ensures

pub returns-clause-put : goal.returns-clause-put
returns-clause-put g c =
    let shown = shown_events g.T.Integer.rank g.VC.ValueCarrier.shown in
    let none = g.met.I.SortedDisjointMap.gives _ _ _ c.in-None.ensures.steps in
    sym (append-nil _) ∙ ap (λ es. shown c.loop-range.events.items ++ events_of c.args.input es) (sym none.0) ∙ c.loop-range.invariant
