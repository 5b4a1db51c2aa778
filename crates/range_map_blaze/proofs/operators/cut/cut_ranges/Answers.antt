use Rattle.range_map_blaze.proofs.Words.{[], ◌++◌, ◌∷◌, ◌∙◌, sym, ap, append-nil, append_assoc, subst, IsFinite, unit_laws, left_alone, IsChosen, shown_bare_range, unit_eq}
use Rattle.range_map_blaze.proofs.Paints.CutRanges.{cut_none, cut_more, cut_part}
use Rattle.range_map_blaze.proofs.Paints.Insides.{with_key}
use Rattle.range_map_blaze.proofs.operators.cut.cut_ranges.Goals as goal

pub loop-range-smaller : goal.loop-range-smaller
loop-range-smaller g c = (c.in-Some.ensures.goes.on c.loop-range.iterator.1).2

pub loop-range-init-derived : goal.loop-range-init-derived
loop-range-init-derived g c = (g.met.S.SortedDisjoint.ready _, subst IsFinite (sym (g.met.S.SortedDisjoint.counted _)) tt)

pub loop-range-init : goal.loop-range-init
loop-range-init g c = (
  [],
  ap g.S.SortedDisjoint.left (sym c.into_iter-range-iterator.ensures.into_iter_gives),
  cut_none g.V.PartialEq.eq g.met.V.Eq.laws g.T.Integer.low g.T.Integer.high c.args.map.entries _ (sym (ap (λ s. s.entries) c.map.view_is)) c.in_hand.ensures,
)

pub cut_range-requires-clause-order : goal.cut_range-requires-clause-order
cut_range-requires-clause-order g c =
    let i = c.loop-range.invariant in
    let took = g.met.S.SortedDisjoint.gives _ _ _ c.in-Some.ensures.steps in
    rw (c.into_inner-start.ensures.start, c.into_inner-start.ensures.end)
    (with_key unit_eq unit_laws g.T.Integer.low g.T.Integer.high i.0 (shown_bare_range g.T.Integer.rank c.in-Some.range) _ _ (i.1 ∙ ap (λ rs. i.0 ++ rs) took) c.in_hand-2.ensures)

pub loop-range-preserved : goal.loop-range-preserved
loop-range-preserved g c =
    let i = c.loop-range.invariant in
    let r = shown_bare_range g.T.Integer.rank c.in-Some.range in
    let took = g.met.S.SortedDisjoint.gives _ _ _ c.in-Some.ensures.steps in (
      i.0 ++ r ∷ [],
      i.1 ∙ ap (λ rs. i.0 ++ rs) took ∙ sym (append_assoc i.0 (r ∷ []) _),
      cut_more g.V.PartialEq.eq g.met.V.Eq.laws g.T.Integer.low g.T.Integer.high c.args.map.entries r i.0 _ _ i.2
          (rw (c.into_inner-start.ensures.start, c.into_inner-start.ensures.end) at c.in_ok-cut_range.ensures.ok),
    )

pub returns-then-entries-least-clause-off : goal.returns-then-entries-least-clause-off
returns-then-entries-least-clause-off g c =
    let i = c.loop-range.invariant in
    cut_part g.V.PartialEq.eq g.met.V.Eq.laws g.T.Integer.low g.T.Integer.high c.args.map.entries i.0 _ _ _ i.1 i.2

pub returns-clause-cut : goal.returns-clause-cut
returns-clause-cut g c _ =
    let i = c.loop-range.invariant in
    let all = i.1 ∙ ap (λ rs. i.0 ++ rs) (g.met.S.SortedDisjoint.gives _ _ _ c.in-None.ensures.steps).0 ∙ append-nil i.0 in
    subst (λ rs. IsChosen g.V.PartialEq.eq g.T.Integer.low g.T.Integer.high left_alone c.args.map.entries rs c.loop-range.table.entries) (sym all) i.2

pub returns-clause-off : goal.returns-clause-off
returns-clause-off g c =
    let i = c.loop-range.invariant in
    cut_part g.V.PartialEq.eq g.met.V.Eq.laws g.T.Integer.low g.T.Integer.high c.args.map.entries i.0 _ _ _ i.1 i.2
