use Rattle.blaze_streams.proofs.Words.{nat_eq, sym}
use Rattle.blaze_streams.proofs.Lesser.{at_most_itself}
use Rattle.blaze_streams.proofs.Rows.{from_firsts, reach_from, steady_none}
use Rattle.blaze_streams.proofs.segmenting.list_segments.next_segment.Goals as goal

pub segment_end-requires : goal.segment_end-requires
segment_end-requires g c = record { from = from_firsts (g.T.Integer.rank c.in-Some.start) c.args.lists.now (at_most_itself _ _ (sym c.in-Some.ensures.first)) }

pub row_at-requires : goal.row_at-requires
row_at-requires g c =
    let lo = g.T.Integer.rank c.in-Some.start in
    record { reach = reach_from nat_eq lo c.args.lists.now c.segment_start.ensures.canonical (from_firsts lo c.args.lists.now (at_most_itself _ _ (sym c.in-Some.ensures.first))) }

pub returns-in_default-segment_end-clause-none : goal.returns-in_default-segment_end-clause-none
returns-in_default-segment_end-clause-none g c = steady_none (g.T.Integer.rank c.in-Some.start) c.args.lists.now (sym c.in_default-segment_end.ensures)

pub returns-clause-some : goal.returns-clause-some
returns-clause-some g c = record { starts = sym c.in-Some.ensures.first; ends = sym c.in-Some-segment_end.ensures; has = c.in_ok-at.ensures; left = c.advance_all.ensures }
