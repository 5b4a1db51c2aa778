use Rattle.range_map_blaze.proofs.Words.{map, SameEntries, shown_entry, shown_list}
use Rattle.range_map_blaze.proofs.pairs.cloned.Given as goal

-- the entries so far are those of the borrowed values so far
abbrev pub invariant-loop-start : goal.invariant-loop-start
invariant-loop-start g l = SameEntries g.V.PartialEq.eq (map (shown_entry g.T.Integer.rank (λ v. v.now)) l.yielded) (shown_list g.T.Integer.rank l.entries.items)
