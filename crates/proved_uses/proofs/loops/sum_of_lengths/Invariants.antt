use Rattle.std.proofs.Common.{◌≡◌, pos, ◌+ℤ◌}
use Rattle.blaze_entries.specs.Canonical.{IsDisjoint}
use Rattle.range_map_blaze.specs.Words.{keys_in}
use Rattle.proved_uses.proofs.loops.sum_of_lengths.Given as goal

-- the sum so far and the lengths of the other ranges are the lengths of all
abbrev pub invariant-loop-range : goal.invariant-loop-range
invariant-loop-range l = (pos l.sum +ℤ keys_in l.range-iterator ≡ keys_in l.map.entries) × IsDisjoint l.range-iterator
