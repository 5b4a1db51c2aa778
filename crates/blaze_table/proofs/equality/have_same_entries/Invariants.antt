use Rattle.blaze_table.proofs.Words.{◌≡◌, same_entries}
use Rattle.blaze_table.proofs.equality.have_same_entries.Given as goal

-- the result is that for the remaining entries
abbrev pub invariant-loop-entry : goal.invariant-loop-entry
invariant-loop-entry g l =
    (goal.iterator-loop-entry g).can_next l.entry-iterator
    × (goal.iterator-loop-entry g).is_finite l.entry-iterator
    × (same_entries g.V.PartialEq.eq l.left.entries l.right.entries ≡ same_entries g.V.PartialEq.eq l.entry-iterator l.others)
