use Rattle.range_map_blaze.proofs.Words.{map, IsCounted, shown_range, ArePaintedInTurn}
use Rattle.range_map_blaze.proofs.map.RangeMapBlaze.extend_simple.Given as goal

abbrev pub invariant-loop-range : goal.invariant-loop-range
invariant-loop-range g l =
    ArePaintedInTurn g.V.PartialEq.eq g.T.Integer.low g.T.Integer.high (map (shown_range g.T.Integer.rank (λ v. v)) l.yielded) l.fn.self.entries l.self.entries
    × IsCounted l.fn.self l.self
