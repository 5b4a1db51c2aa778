use Rattle.blaze_entries.specs.Entries.{at}
use Rattle.range_map_c.proofs.FreeRanges.{IsSearched}
use Rattle.range_map_c.proofs.gaps.first_gap.Given as goal

-- the keys from `first` on are still to be searched
abbrev pub invariant-loop-range : goal.invariant-loop-range
invariant-loop-range l =
    (goal.iterator-loop-range).can_next l.entries × (goal.iterator-loop-range).is_finite l.entries
    × IsSearched (at l.map.entries) l.from l.to l.length l.first l.to l.entries
