use Rattle.range_map_blaze.proofs.Words.{IsCopied, within}
use Rattle.range_map_blaze.proofs.Paints.Following.{IsOnward}
use Rattle.range_map_blaze.proofs.map.RangeMapBlaze.clones_within.Given as goal

-- what is within the range of the entries that are left is still to be put behind the list
abbrev pub invariant-loop-first : goal.invariant-loop-first
invariant-loop-first g l =
    let rank = g.T.Integer.rank in
    let eq = g.V.PartialEq.eq in
    let left = l.first-iterator in
    (goal.iterator-loop-first g).can_next left
    × (goal.iterator-loop-first g).is_finite left
    × IsOnward eq (rank l.start) left
    × IsCopied rank eq (within (rank l.fn.start) (rank l.fn.end) l.fn.self.entries) (within (rank l.start) (rank l.end) left) l.list.items
