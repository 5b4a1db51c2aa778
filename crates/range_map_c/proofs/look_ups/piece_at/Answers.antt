use Rattle.std.proofs.Common.{arith}
use Rattle.std.proofs.lemmas.Int.{ints}
use Rattle.range_map_c.proofs.Tells.{gap_told}
use Rattle.range_map_c.proofs.look_ups.piece_at.Goals as goal

pub returns-in-None : goal.returns-in-None
returns-in-None c =
    gap_told _ _ _ _ _ _ _ _ _ c.in-None.is c.range_or_gap_at.ensures.entry (omega (arith, ints)) (omega (arith, ints)) (omega (arith, ints))
