use Rattle.range_map_blaze.proofs.Words.{◌≡◌, pos, ◌+ℤ◌, IsCanonical, keys_in, cut_each, within}
use Rattle.range_map_blaze.proofs.within.count_within.Given as goal

-- the sum is that of the cut entries so far
abbrev pub invariant-loop-first : goal.invariant-loop-first
invariant-loop-first g l =
    let rank = g.T.Integer.rank in
    let left = cut_each (rank l.start) (rank l.end) l.first-iterator in
    (goal.iterator-loop-first g).can_next l.first-iterator
    × (goal.iterator-loop-first g).is_finite l.first-iterator
    × IsCanonical g.V.PartialEq.eq left
    × (pos (g.T.SafeLen.SafeLength.number l.sum) +ℤ keys_in left ≡ keys_in (within (rank l.start) (rank l.end) l.table.entries))
