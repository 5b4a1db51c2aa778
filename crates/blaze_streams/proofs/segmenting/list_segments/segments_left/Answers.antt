use Rattle.blaze_streams.proofs.Words.{nat_eq, nat_eq_equiv, shown_segment, shown_segments}
use Rattle.blaze_streams.proofs.FoundSegments.{entries_more, found_none, found_more, found_all, next_less}
use Rattle.blaze_streams.proofs.segmenting.list_segments.segments_left.Goals as goal

pub loop-found-init : goal.loop-found-init
loop-found-init g c = rw c.new-found.ensures.items (found_none nat_eq c.args.lists.now c.requires)

pub loop-found-smaller : goal.loop-found-smaller
loop-found-smaller g c = next_less nat_eq c.loop-found.lists c.next_segment.new.lists _ c.loop-found.invariant.left (rw c.in-Some.is at c.in_ok-segment.ensures.some)

pub loop-found-preserved : goal.loop-found-preserved
loop-found-preserved g c =
    let rank = g.T.Integer.rank in
    found_more nat_eq nat_eq_equiv c.args.lists.now c.loop-found.lists (shown_segments rank c.loop-found.found.items) (shown_segment rank c.in-Some.segment)
    (shown_segments rank c.push.new.self.items) c.next_segment.new.lists c.loop-found.invariant (rw c.in-Some.is at c.in_ok-segment.ensures.some)
    (entries_more rank c.push.new.self.items c.loop-found.found.items c.in-Some.segment c.in_ok-push.ensures.items)

pub returns : goal.returns
returns g c = found_all c.args.lists.now c.loop-found.lists _ c.loop-found.invariant (rw c.in_default.is at c.in_ok-segment.ensures.none)
