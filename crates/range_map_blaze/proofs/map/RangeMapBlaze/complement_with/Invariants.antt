use Rattle.range_map_blaze.proofs.Words.{◌≡◌, ◌++◌, List, map, IsComplement, Entry, SameEntries, shown_entry, unit_eq}
use Rattle.range_map_blaze.proofs.Valued.{valued}
use Rattle.range_map_blaze.proofs.map.RangeMapBlaze.complement_with.Given as goal

-- the entries have the ranges taken from the complement, and the rest is left
abbrev pub invariant-loop-range : goal.invariant-loop-range
invariant-loop-range g l =
    (all taken : List (Entry (Unit {0})))
    × IsComplement unit_eq g.T.Integer.low g.T.Integer.high tt l.fn.self.entries all
    × (all ≡ taken ++ l.range-iterator)
    × SameEntries g.V.PartialEq.eq (valued l.fn.value taken) (map (shown_entry g.T.Integer.rank (λ v. v)) l.entries.items)
