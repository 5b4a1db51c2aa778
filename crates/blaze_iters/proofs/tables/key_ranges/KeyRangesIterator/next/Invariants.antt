use Rattle.blaze_iters.proofs.Words.{◌≡◌, None, length, joined_ranges, ranges_then}
use Rattle.blaze_iters.proofs.tables.key_ranges.KeyRangesIterator.next.Given as goal

abbrev pub invariant-loop-next_start : goal.invariant-loop-next_start
invariant-loop-next_start g l =
    let rank = g.T.Integer.rank in
    record {
      none : l.self-inside.open ≡ None;
      left : joined_ranges (rank l.start) (rank l.end) (ranges_then rank (g.I.EntryEnds.left l.self-inside.entries) l.self-inside.back) ≡ l.fn.self;
    }

abbrev pub decreases-loop-next_start : goal.decreases-loop-next_start
decreases-loop-next_start g l = length (ranges_then g.T.Integer.rank (g.I.EntryEnds.left l.self-inside.entries) l.self-inside.back)
