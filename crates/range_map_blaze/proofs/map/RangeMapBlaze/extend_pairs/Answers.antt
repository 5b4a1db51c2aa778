use Rattle.range_map_blaze.proofs.Words.{counted_none, counted_then}
use Rattle.range_map_blaze.proofs.Paints.Joinings.{underway_begun, underway_painted, underway_item, front_painted}
use Rattle.range_map_blaze.proofs.map.RangeMapBlaze.extend_pairs.Goals as goal

pub loop-item-init-derived : goal.loop-item-init-derived
loop-item-init-derived g c = c.requires.ends _ c.into_iter-item-iterator.ensures.into_iter_gives

pub loop-item-smaller : goal.loop-item-smaller
loop-item-smaller g c = (c.in-Some.ensures.goes.on c.loop-item.iterator.1).2

pub loop-item-init : goal.loop-item-init
loop-item-init g c = (underway_begun g.V.PartialEq.eq g.met.V.Eq.laws g.T.Integer.low g.T.Integer.high c.args.self.now.entries c.in_hand.ensures, counted_none _)

pub loop-item-preserved : goal.loop-item-preserved
loop-item-preserved g c = (
  underway_item g.V.PartialEq.eq g.met.V.Eq.laws g.T.Integer.low g.T.Integer.high g.P.Pair.pair c.loop-item.yielded c.in-Some.item _ _ _ _
      (c.in_ok-pending.ensures.ok _ _ c.loop-item.invariant.0) c.parts-start.ensures,
  counted_then _ _ _ c.loop-item.invariant.1 c.take_pair.ensures.counted,
)

pub returns-in_err-pending-clause-extended : goal.returns-in_err-pending-clause-extended
returns-in_err-pending-clause-extended g c =
    let it = c.into_iter-item-iterator in
    front_painted g.I.IntoIterator.into_iter_gives g.I.IntoIter.Iterator.next_gives g.P.Pair.pair g.V.PartialEq.eq g.T.Integer.low g.T.Integer.high c.args.iter it.result _ c.loop-item.yielded _ _ _ _ c.from_residual.result
    it.ensures.into_iter_gives c.loop-item.yielded_by c.loop-item.invariant.0 c.in_err-pending.ensures.err c.from_residual.ensures.0

pub returns-in_err-paint_pending-clause-extended : goal.returns-in_err-paint_pending-clause-extended
returns-in_err-paint_pending-clause-extended g c =
    let it = c.into_iter-item-iterator in
    front_painted g.I.IntoIterator.into_iter_gives g.I.IntoIter.Iterator.next_gives g.P.Pair.pair g.V.PartialEq.eq g.T.Integer.low g.T.Integer.high c.args.iter it.result _ c.loop-item.yielded _ _ _ _ c.from_residual-in_err-paint_pending.result
    it.ensures.into_iter_gives c.loop-item.yielded_by c.loop-item.invariant.0 c.in_err-paint_pending.ensures.err c.from_residual-in_err-paint_pending.ensures.0

pub returns-clause-extended : goal.returns-clause-extended
returns-clause-extended g c =
    let it = c.into_iter-item-iterator in (
      it.result,
      c.loop-item.yielded,
      it.ensures.into_iter_gives,
      underway_painted g.V.PartialEq.eq g.met.V.Eq.laws g.T.Integer.low g.T.Integer.high _ _ _ _ _ c.loop-item.invariant.0 c.in_ok-paint_pending.ensures.ok,
      (_, (_, c.loop-item.yielded_by, c.in-None.ensures.steps)),
    )
