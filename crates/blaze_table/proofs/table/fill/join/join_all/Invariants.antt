use Rattle.blaze_table.proofs.Words.{◌≡◌, length, map, AreKeys, keys_in, at, SameContent, AreStartsKept, IsJoinedBut, IsOrdered, IsCounted}
use Rattle.blaze_table.proofs.table.fill.join.join_all.Given as goal

-- the entries at the remaining joints are not joined yet
abbrev pub invariant-loop-key : goal.invariant-loop-key
invariant-loop-key g l = record {
  ordered : IsOrdered l.entries.entries;
  are_keys : AreKeys g.T.Integer.low g.T.Integer.high l.entries.entries;
  joined : IsJoinedBut g.V.PartialEq.eq (map g.T.Integer.rank l.join_keys.items) l.entries.entries;
  count : keys_in l.entries.entries ≡ keys_in l.fn.entries.entries;
  same : SameContent g.V.PartialEq.eq l.entries.entries l.fn.entries.entries;
  kept : AreStartsKept g.V.PartialEq.eq (at l.fn.entries.entries) l.fn.entries.entries l.entries.entries;
  counted : IsCounted l.fn.entries l.entries;
}

abbrev pub decreases-loop-key : goal.decreases-loop-key
decreases-loop-key g l = length l.join_keys.items
