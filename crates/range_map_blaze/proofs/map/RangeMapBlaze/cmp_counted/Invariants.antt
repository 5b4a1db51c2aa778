use Rattle.range_map_blaze.proofs.Words.{◌≡◌, ◌+◌, ◌≤◌, length, pairs_cmp}
use Rattle.range_map_blaze.proofs.map.RangeMapBlaze.cmp_counted.Given as goal

-- what is left compares as the maps do, and each turn so far took at least one entry
abbrev pub invariant-loop-order : goal.invariant-loop-order
invariant-loop-order g l =
    (pairs_cmp g.V.Ord.cmp l.self.entries l.other.entries ≡ pairs_cmp g.V.Ord.cmp l.left l.rest)
    × (l.turns + (length l.left + length l.rest) ≤ l.fn.turns + (length l.self.entries + length l.other.entries))
    × (l.fn.turns ≤ l.turns)

abbrev pub decreases-loop-order : goal.decreases-loop-order
decreases-loop-order g l = length l.left + length l.rest
