use Rattle.std.proofs.Common.{◌≡◌, pos, ◌+ℤ◌}
use Rattle.blaze_entries.specs.Overlap.{covered_keys}
use Rattle.range_map_c.proofs.counts.count_within.Given as goal

-- the keys that were counted, and those of the entries that are left, are all keys in the range
abbrev pub invariant-loop-range : goal.invariant-loop-range
invariant-loop-range l =
    (goal.iterator-loop-range).can_next l.entries × (goal.iterator-loop-range).is_finite l.entries
    × (pos l.count +ℤ covered_keys l.lo l.hi l.entries ≡ covered_keys l.lo l.hi l.map.entries)
