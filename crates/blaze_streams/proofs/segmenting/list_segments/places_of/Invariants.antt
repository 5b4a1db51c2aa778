use Rattle.blaze_streams.proofs.Words.{◌≡◌, ◌++◌, drop, AreKeys, shown_ranges, numbered}
use Rattle.blaze_streams.proofs.segmenting.list_segments.places_of.Given as goal

abbrev pub invariant-loop-i : goal.invariant-loop-i
invariant-loop-i g l = record {
  numbered : shown_ranges g.T.Integer.rank (λ i. i) l.found.items ++ numbered g.T.Integer.rank l.i (drop l.i l.ranges) ≡ numbered g.T.Integer.rank 0 l.ranges;
  keys : AreKeys g.T.Integer.low g.T.Integer.high (shown_ranges g.T.Integer.rank (λ i. i) l.found.items);
}
