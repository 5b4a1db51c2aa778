use Rattle.blaze_table.proofs.Words.{◌≡◌, pos, ◌+ℤ◌, IsCanonical, keys_in}
use Rattle.blaze_table.proofs.count.count.Given as goal

-- the sum is that of the entries so far
abbrev pub invariant-loop-start : goal.invariant-loop-start
invariant-loop-start g l =
    (goal.iterator-loop-start g).can_next l.start-iterator
    × (goal.iterator-loop-start g).is_finite l.start-iterator
    × IsCanonical g.V.PartialEq.eq l.start-iterator
    × (pos (g.T.SafeLen.SafeLength.number l.sum) +ℤ keys_in l.start-iterator ≡ keys_in l.entries.counted.entries)
