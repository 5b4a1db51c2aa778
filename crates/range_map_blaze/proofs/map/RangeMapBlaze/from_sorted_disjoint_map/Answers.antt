use Rattle.range_map_blaze.proofs.Words.{IfOk-weaker, [], ◌++◌, ◌∷◌, ◌∙◌, sym, ap, subst, map, append-nil, IsFinite, SameEntries, shown_entry, shown_range}
use Rattle.range_map_blaze.proofs.Made.{made_of}
use Rattle.range_map_blaze.proofs.Streams.{range_map_as, taken_more}
use Rattle.range_map_blaze.proofs.map.RangeMapBlaze.from_sorted_disjoint_map.Goals as goal

pub loop-range-init-derived : goal.loop-range-init-derived
loop-range-init-derived g c = (g.met.I.SortedDisjointMap.ready _, subst IsFinite (sym (g.met.I.SortedDisjointMap.counted _)) tt)

pub loop-range-smaller : goal.loop-range-smaller
loop-range-smaller g c = (c.in-Some.ensures.goes.on c.loop-range.iterator.1).2

pub loop-range-init : goal.loop-range-init
loop-range-init g c = (
  [],
  ap g.I.SortedDisjointMap.left (sym c.into_iter-range-iterator.ensures.into_iter_gives),
  subst (λ xs. SameEntries g.V.PartialEq.eq [] (map (shown_entry g.T.Integer.rank (λ v. v)) xs)) (sym c.new-entries.ensures.items) tt,
)

pub loop-range-preserved : goal.loop-range-preserved
loop-range-preserved g c =
    let i = c.loop-range.invariant in
    let step = g.met.I.SortedDisjointMap.gives _ _ _ c.in-Some.ensures.steps in
    let e = shown_range g.T.Integer.rank g.VC.ValueCarrier.shown (c.in-Some.range, c.in-Some.carrier) in
    let more = taken_more g.T.Integer.rank g.V.PartialEq.eq _ i.0 _ _ e c.loop-range.entries.items _ _ i.1 step c.in_ok-push.ensures.items (sym (ap g.T.Integer.rank c.into_inner-start.ensures.start)) (sym (ap g.T.Integer.rank c.into_inner-start.ensures.end)) c.in_ok-into_value.ensures i.2 in
    (i.0 ++ e ∷ [], more.0, more.1)

pub from_canonical-requires : goal.from_canonical-requires
from_canonical-requires g c = record {
  range_map =
      let i = c.loop-range.invariant in
      let none = (g.met.I.SortedDisjointMap.gives _ _ _ c.in-None.ensures.steps).0 in
      let all = i.1 ∙ ap (λ es. i.0 ++ es) none ∙ append-nil i.0 in
      range_map_as g.V.PartialEq.eq g.met.V.Eq.laws g.T.Integer.low g.T.Integer.high (g.I.SortedDisjointMap.left c.args.stream) _ (subst (λ es. SameEntries g.V.PartialEq.eq es (map (shown_entry g.T.Integer.rank (λ v. v)) c.loop-range.entries.items)) (sym all) i.2) c.in_hand.ensures;
}

pub returns : goal.returns
returns g c =
    let i = c.loop-range.invariant in
    let none = (g.met.I.SortedDisjointMap.gives _ _ _ c.in-None.ensures.steps).0 in
    let all = i.1 ∙ ap (λ es. i.0 ++ es) none ∙ append-nil i.0 in
    IfOk-weaker c.from_canonical.result _ _ (λ new made. made_of (SameEntries g.V.PartialEq.eq (g.I.SortedDisjointMap.left c.args.stream)) new _ made (subst (λ es. SameEntries g.V.PartialEq.eq es (map (shown_entry g.T.Integer.rank (λ v. v)) c.loop-range.entries.items)) (sym all) i.2)) c.from_canonical.ensures
