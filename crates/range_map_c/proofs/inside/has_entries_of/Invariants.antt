use Rattle.std.proofs.Common.{nat_eq}
use Rattle.range_map_blaze.specs.Extended.{AreInside}
use Rattle.range_map_c.proofs.inside.has_entries_of.Given as goal

-- if the entries that are left are inside, all entries are
abbrev pub invariant-loop-range : goal.invariant-loop-range
invariant-loop-range l =
    (goal.iterator-loop-range).can_next l.entries × (goal.iterator-loop-range).is_finite l.entries
    × (AreInside nat_eq l.entries l.map.entries → AreInside nat_eq l.other.entries l.map.entries)
    × (AreInside nat_eq l.other.entries l.map.entries → AreInside nat_eq l.entries l.map.entries)
