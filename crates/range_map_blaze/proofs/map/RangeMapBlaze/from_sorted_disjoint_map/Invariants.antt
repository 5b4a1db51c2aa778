use Rattle.range_map_blaze.proofs.Words.{◌≡◌, ◌++◌, List, map, Entry, SameEntries, shown_entry}
use Rattle.range_map_blaze.proofs.map.RangeMapBlaze.from_sorted_disjoint_map.Given as goal

-- the entries are those taken from the stream, and the rest is left
abbrev pub invariant-loop-range : goal.invariant-loop-range
invariant-loop-range g l =
    (taken : List (Entry g.row.V.Denot))
    × (g.I.SortedDisjointMap.left l.fn.stream ≡ taken ++ g.I.SortedDisjointMap.left l.range-iterator)
    × SameEntries g.V.PartialEq.eq taken (map (shown_entry g.T.Integer.rank (λ v. v)) l.entries.items)
