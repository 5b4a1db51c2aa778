use Rattle.std.proofs.Common.{length}
use Rattle.blaze_entries.specs.Entries.{at}
use Rattle.range_map_c.proofs.FreeRanges.{IsSearched}
use Rattle.range_map_c.proofs.gaps.last_gap.Given as goal

-- the keys up to `last` are still to be searched
abbrev pub invariant-loop-range : goal.invariant-loop-range
invariant-loop-range l = IsSearched (at l.map.entries) l.from l.to l.length l.from l.last l.entries

abbrev pub decreases-loop-range : goal.decreases-loop-range
decreases-loop-range l = length l.entries
