use Rattle.range_map_blaze.proofs.Words.{arith, ints, at}
use Rattle.range_map_blaze.proofs.Universal.{universal}
use Rattle.range_map_blaze.proofs.map.RangeMapBlaze.is_universal.Goals as goal

pub returns : goal.returns
returns g c =
    universal (at c.args.self.now.entries) g.T.Integer.low g.T.Integer.high _ _ c.differ.result c.len.ensures.mapped (omega (arith, ints, c.length.ensures, c.min_value-first.ensures, c.max_value-last.ensures)) c.differ.ensures
