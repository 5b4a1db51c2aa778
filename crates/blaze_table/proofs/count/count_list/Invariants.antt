use Rattle.blaze_table.proofs.Words.{◌≡◌, pos, ◌+ℤ◌, drop, IsCanonical, keys_in, shown_list}
use Rattle.blaze_table.proofs.count.count_list.Given as goal

-- the sum is that of the entries so far
abbrev pub invariant-loop-start : goal.invariant-loop-start
invariant-loop-start g l =
    let left = shown_list g.T.Integer.rank (drop l.start-index l.entries) in
    IsCanonical g.V.PartialEq.eq left × (pos (g.T.SafeLen.SafeLength.number l.sum) +ℤ keys_in left ≡ keys_in (shown_list g.T.Integer.rank l.entries))
