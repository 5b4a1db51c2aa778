use Rattle.blaze_table.proofs.Words.{nat_of, ◌≡◌, pos, ◌+ℤ◌, ◌-ℤ◌, ◌≤ℤ◌, keys_in, KeepsMore, pairs_from, AnswersAtPair, shown_list}
use Rattle.blaze_table.proofs.table.retain.keep_keys.Given as goal

-- the closure was called with the keys before `key`
abbrev pub invariant-loop-end : goal.invariant-loop-end
invariant-loop-end g l =
    let rank = g.T.Integer.rank in
    let lo = rank l.fn.start in
    let number = g.T.SafeLen.SafeLength.number in
    let old = shown_list rank l.initial.out.items in
    let new = shown_list rank l.out.items in
    record {
      from : lo ≤ℤ rank l.key;
      to : rank l.key ≤ℤ rank l.end;
      kept : KeepsMore (AnswersAtPair g.F.Fn) l.f rank g.V.PartialEq.eq g.T.Integer.low g.T.Integer.high (pairs_from g.T.Integer.of_rank lo (nat_of (rank l.key -ℤ lo)) l.value) lo (rank l.key) old new;
      room : (rank l.end -ℤ rank l.key +ℤ pos 1) ≤ℤ pos (number l.left);
      counted : pos (number l.left) +ℤ keys_in old +ℤ (rank l.key -ℤ lo) ≡ pos (number l.fn.len) +ℤ keys_in new;
    }

abbrev pub decreases-loop-end : goal.decreases-loop-end
decreases-loop-end g l = nat_of (g.T.Integer.rank l.end -ℤ g.T.Integer.rank l.key)
