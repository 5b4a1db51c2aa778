use Rattle.blaze_table.proofs.Words.{◌≡◌, ◌++◌, map, into_iter_items, shown_entry, shown_bare_ranges}
use Rattle.blaze_table.proofs.set.range_set.entries_of_ranges.Given as goal

-- the converted entries and the remaining ranges are all ranges
abbrev pub invariant-loop-range : goal.invariant-loop-range
invariant-loop-range g l = map (shown_entry g.T.Integer.rank (λ v. v)) l.entries.items ++ shown_bare_ranges g.T.Integer.rank (into_iter_items l.range-iterator) ≡ shown_bare_ranges g.T.Integer.rank l.fn.ranges.items
