use Rattle.blaze_streams.proofs.Words.{sym, shown_pair, shown_ranges}
use Rattle.blaze_streams.proofs.CarriedJoins.{carried_none, carried_more, carried_all, carried_range_map}
use Rattle.blaze_streams.proofs.Paired.{paired_less}
use Rattle.blaze_streams.proofs.segmenting.joins.join_of.Goals as goal

pub loop-start-init : goal.loop-start-init
loop-start-init g c =
    rw (c.new-left.ensures, c.new-right.ensures, c.new-out.ensures.items)
    (carried_none g.VCL.ValueCarrier.is_carried g.VCR.ValueCarrier.is_carried g.VCL.Value.PartialEq.eq g.VCR.Value.PartialEq.eq g.T.Integer.low g.T.Integer.high c.args.kind (g.L.SortedDisjointMap.left c.args.left) (g.R.SortedDisjointMap.left c.args.right))

pub loop-start-smaller : goal.loop-start-smaller
loop-start-smaller g c =
    let s = g.T.Integer.rank c.in-Some.start in
    paired_less g.VCL.Value.PartialEq.eq g.VCR.Value.PartialEq.eq g.T.Integer.low g.T.Integer.high c.args.kind g.VCL.ValueCarrier.is_carried g.VCR.ValueCarrier.is_carried
    (g.L.SortedDisjointMap.left c.args.left) c.loop-start.left c.join_next.new.left (g.R.SortedDisjointMap.left c.args.right) c.loop-start.right c.join_next.new.right _ _ s
    c.first_of.ensures.left c.first_of.ensures.right
    (sym c.in-Some.ensures.first) c.in_ok-join_next.ensures

pub loop-start-preserved : goal.loop-start-preserved
loop-start-preserved g c =
    let s = g.T.Integer.rank c.in-Some.start in
    let seen = shown_ranges g.T.Integer.rank (shown_pair g.VCL.ValueCarrier.shown g.VCR.ValueCarrier.shown) in
    carried_more g.VCL.ValueCarrier.is_carried g.VCR.ValueCarrier.is_carried g.VCL.Value.PartialEq.eq g.VCR.Value.PartialEq.eq g.T.Integer.low g.T.Integer.high c.args.kind
    (g.L.SortedDisjointMap.left c.args.left) c.loop-start.left c.join_next.new.left (g.R.SortedDisjointMap.left c.args.right) c.loop-start.right c.join_next.new.right
    (seen c.loop-start.out.items) (seen c.join_next.new.out.items) s
    c.first_of.ensures.left c.first_of.ensures.right
    (sym c.in-Some.ensures.first) c.in_ok-join_next.ensures
    g.met.VCL.Value.Eq.laws g.met.VCR.Value.Eq.laws c.loop-start.invariant

pub new-requires : goal.new-requires
new-requires g c = record {
  range_map =
      carried_range_map g.VCL.ValueCarrier.is_carried g.VCR.ValueCarrier.is_carried g.VCL.Value.PartialEq.eq g.VCR.Value.PartialEq.eq g.T.Integer.low g.T.Integer.high c.args.kind g.met.VCL.Value.Eq.laws g.met.VCR.Value.Eq.laws c.requires.left c.requires.right _ _ _
      (carried_all g.VCL.ValueCarrier.is_carried g.VCR.ValueCarrier.is_carried g.VCL.Value.PartialEq.eq g.VCR.Value.PartialEq.eq g.T.Integer.low g.T.Integer.high c.args.kind g.met.VCL.Value.Eq.laws g.met.VCR.Value.Eq.laws _ c.loop-start.left _ c.loop-start.right _ c.loop-start.invariant
      (sym c.in_default.ensures.first));
}

pub returns : goal.returns
returns g c =
    rw c.new.ensures
    (carried_all g.VCL.ValueCarrier.is_carried g.VCR.ValueCarrier.is_carried g.VCL.Value.PartialEq.eq g.VCR.Value.PartialEq.eq g.T.Integer.low g.T.Integer.high c.args.kind g.met.VCL.Value.Eq.laws g.met.VCR.Value.Eq.laws _ c.loop-start.left _ c.loop-start.right _ c.loop-start.invariant
    (sym c.in_default.ensures.first))
