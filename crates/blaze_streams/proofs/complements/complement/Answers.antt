use Rattle.blaze_streams.proofs.Words.{refl, sym, ap, subst, IsFinite, shown_bare_range, unit_eq, IsComplement, unit_laws}
use Rattle.blaze_streams.proofs.GapLists.{rank_of_next, gap_more, complement_made}
use Rattle.blaze_streams.proofs.complements.complement.Goals as goal

pub loop-range-preserved : goal.loop-range-preserved
loop-range-preserved g c =
    let rank = g.T.Integer.rank in
    let high = g.T.Integer.high in
    gap_more high _ _ _ _ _ c.loop-range.invariant _ _ _ (shown_bare_range rank c.in-Some.range) _
    (g.met.S.SortedDisjoint.gives _ _ _ c.in-Some.ensures.steps) (ap rank c.into_inner-start.ensures.start) (ap rank c.into_inner-start.ensures.end)
    c.in_ok-push_none.ensures (rank_of_next rank high _ _ c.checked_add_one-next.ensures)

pub new-requires : goal.new-requires
new-requires g c = record {
  range_set =
      (complement_made unit_eq unit_laws g.T.Integer.low g.T.Integer.high _ c.in_hand.ensures _ _ _ _ c.loop-range.invariant (g.met.S.SortedDisjoint.gives _ _ _ c.in-None.ensures.steps).0 c.in_ok-push_last.ensures).range_map;
}

pub returns : goal.returns
returns g c =
    subst (IsComplement unit_eq g.T.Integer.low g.T.Integer.high tt (g.S.SortedDisjoint.left c.args.set)) (sym c.new.ensures)
    (complement_made unit_eq unit_laws g.T.Integer.low g.T.Integer.high _ c.in_hand.ensures _ _ _ _ c.loop-range.invariant (g.met.S.SortedDisjoint.gives _ _ _ c.in-None.ensures.steps).0 c.in_ok-push_last.ensures)

pub loop-range-init : goal.loop-range-init
loop-range-init g c = rw (c.new-gaps.ensures.items, c.min_value.ensures, c.into_iter-range-iterator.ensures.into_iter_gives) refl

pub loop-range-smaller : goal.loop-range-smaller
loop-range-smaller g c = (c.in-Some.ensures.goes.on c.loop-range.iterator.1).2

pub loop-range-init-derived : goal.loop-range-init-derived
loop-range-init-derived g c = (g.met.S.SortedDisjoint.ready _, subst IsFinite (sym (g.met.S.SortedDisjoint.counted _)) tt)
