use Rattle.range_map_blaze.proofs.Words.{IfOk-weaker, sym, ap, subst, IsFinite, EachValue, shown_range, asked, answered_none, takes_next, answered_more, answered_all, each_next}
use Rattle.blaze_streams.specs.Answers.{IsTransformed}
use Rattle.range_map_blaze.proofs.Made.{made_of}
use Rattle.range_map_blaze.proofs.joins.map_of_answers.Goals as goal

pub loop-item-init : goal.loop-item-init
loop-item-init g c =
    rw (c.new-entries.ensures.items, c.into_iter-item-iterator.ensures.into_iter_gives)
    (answered_none g.C.Asks.shows g.C.Asks.calls g.VC.Value.PartialEq.eq g.W.PartialEq.eq g.T.Integer.low g.T.Integer.high c.args.f _ g.met.VC.Value.Eq.laws c.in_hand.ensures)

pub loop-item-init-derived : goal.loop-item-init-derived
loop-item-init-derived g c = (g.met.S.SortedDisjointMap.ready _, subst IsFinite (sym (g.met.S.SortedDisjointMap.counted _)) tt)

pub ask-requires-clause-has : goal.ask-requires-clause-has
ask-requires-clause-has g c =
    each_next g.C.Asks.has_arguments (asked c.loop-item.invariant.calls) _ _ (shown_range g.T.Integer.rank g.VC.ValueCarrier.shown c.in-Some.item)
    (subst (EachValue g.C.Asks.has_arguments) c.loop-item.invariant.whole c.requires.have) (g.met.S.SortedDisjointMap.gives _ _ _ c.in-Some.ensures.steps)

pub ask-requires-clause-callable : goal.ask-requires-clause-callable
ask-requires-clause-callable g c =
    takes_next g.C.Asks.shows g.C.Asks.calls g.VC.Value.PartialEq.eq g.W.PartialEq.eq g.T.Integer.low g.T.Integer.high c.args.f _ c.requires.callable _ _
    (shown_range g.T.Integer.rank g.VC.ValueCarrier.shown c.in-Some.item) c.loop-item.f _ c.loop-item.invariant
    (g.met.S.SortedDisjointMap.gives _ _ _ c.in-Some.ensures.steps)

pub loop-item-preserved : goal.loop-item-preserved
loop-item-preserved g c =
    answered_more g.C.Asks.shows g.C.Asks.calls g.VC.Value.PartialEq.eq g.W.PartialEq.eq g.T.Integer.low g.T.Integer.high c.args.f _ g.met.W.Eq.laws _ _
    (shown_range g.T.Integer.rank g.VC.ValueCarrier.shown c.in-Some.item) c.loop-item.f _ _ _ _ _ _ c.loop-item.invariant
    (g.met.S.SortedDisjointMap.gives _ _ _ c.in-Some.ensures.steps) c.in_ok-answer.ensures
    (ap g.T.Integer.rank c.into_inner-start.ensures.start) (ap g.T.Integer.rank c.into_inner-start.ensures.end) c.in_ok-push_entry.ensures.ok

pub loop-item-smaller : goal.loop-item-smaller
loop-item-smaller g c = (c.in-Some.ensures.goes.on c.loop-item.iterator.1).2

pub from_canonical-requires : goal.from_canonical-requires
from_canonical-requires g c = record {
  range_map =
      (answered_all g.C.Asks.shows g.C.Asks.calls g.VC.Value.PartialEq.eq g.W.PartialEq.eq g.T.Integer.low g.T.Integer.high c.args.f _ g.met.W.Eq.laws _ _ _ c.loop-item.invariant
      (g.met.S.SortedDisjointMap.gives _ _ _ c.in-None.ensures.steps).0).range_map;
}

pub returns : goal.returns
returns g c =
    let answered = answered_all g.C.Asks.shows g.C.Asks.calls g.VC.Value.PartialEq.eq g.W.PartialEq.eq g.T.Integer.low g.T.Integer.high c.args.f _ g.met.W.Eq.laws _ _ _ c.loop-item.invariant
    (g.met.S.SortedDisjointMap.gives _ _ _ c.in-None.ensures.steps).0 in
    IfOk-weaker c.from_canonical.result _ _ (λ map made. made_of (IsTransformed g.C.Asks.shows g.C.Asks.calls g.W.PartialEq.eq g.T.Integer.low g.T.Integer.high c.args.f (g.S.SortedDisjointMap.left c.args.stream)) map _ made answered) c.from_canonical.ensures
