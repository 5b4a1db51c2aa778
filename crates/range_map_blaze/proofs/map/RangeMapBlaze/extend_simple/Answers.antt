use Rattle.range_map_blaze.proofs.Words.{ap, refl, shown_range, counted_none, counted_then}
use Rattle.range_map_blaze.proofs.Paints.InTurn.{in_turn_item}
use Rattle.range_map_blaze.proofs.map.RangeMapBlaze.extend_simple.Goals as goal

pub loop-range-init-derived : goal.loop-range-init-derived
loop-range-init-derived g c = c.requires.ends _ c.into_iter-range-iterator.ensures.into_iter_gives

pub loop-range-smaller : goal.loop-range-smaller
loop-range-smaller g c = (c.in-Some.ensures.goes.on c.loop-range.iterator.1).2

pub loop-range-init : goal.loop-range-init
loop-range-init g c = (refl, counted_none _)

pub loop-range-preserved : goal.loop-range-preserved
loop-range-preserved g c = (
  in_turn_item g.V.PartialEq.eq g.met.V.Eq.laws g.T.Integer.low g.T.Integer.high (shown_range g.T.Integer.rank (λ v. v)) c.loop-range.yielded (c.in-Some.range, c.in-Some.value) _ _ _ _
      c.loop-range.invariant.0 c.in_ok-paint_pair.ensures.ok (ap g.T.Integer.rank c.into_inner-start.ensures.start) (ap g.T.Integer.rank c.into_inner-start.ensures.end) refl,
  counted_then _ _ _ c.loop-range.invariant.1 c.paint_pair.ensures.counted,
)
