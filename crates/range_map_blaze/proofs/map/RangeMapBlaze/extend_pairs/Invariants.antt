use Rattle.range_map_blaze.proofs.Words.{map, option_map, shown_range_entry, IsCounted, IsUnderway}
use Rattle.range_map_blaze.proofs.map.RangeMapBlaze.extend_pairs.Given as goal

abbrev pub invariant-loop-item : goal.invariant-loop-item
invariant-loop-item g l =
    IsUnderway g.V.PartialEq.eq g.T.Integer.low g.T.Integer.high (map g.P.Pair.pair l.yielded) l.fn.self.entries l.self.entries (option_map (shown_range_entry g.T.Integer.rank (λ v. v)) l.pending)
    × IsCounted l.fn.self l.self
