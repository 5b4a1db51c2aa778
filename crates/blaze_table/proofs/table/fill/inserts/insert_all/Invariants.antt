use Rattle.blaze_table.proofs.Words.{nat_of, map, ◌-ℤ◌, at, IsBeside, IsFilling, IsOrderedTable, IsCounted}
use Rattle.blaze_table.proofs.table.fill.inserts.insert_all.Given as goal

-- all keys before the gap are filled
abbrev pub invariant-loop-next : goal.invariant-loop-next
invariant-loop-next g l =
    let rank = g.T.Integer.rank in
    record {
      table : IsOrderedTable g.T.Integer.low g.T.Integer.high (g.T.SafeLen.SafeLength.number l.sum) l.entries.counted.entries;
      filling : IsFilling g.V.PartialEq.eq (rank l.fn.first.start) (rank l.hi) l.value (map rank l.made.starts.items) (map rank l.made.join_keys.items) l.fn.entries.counted.entries l.entries.counted.entries (rank l.gap.start) (rank l.gap.end);
      beside : IsBeside g.V.PartialEq.eq (at l.entries.counted.entries) l.value (rank l.gap.start) (rank l.gap.end) l.gap.equal_below l.gap.equal_above;
      counted : IsCounted l.fn.entries.counted l.entries.counted;
    }

abbrev pub decreases-loop-next : goal.decreases-loop-next
decreases-loop-next g l = nat_of (g.T.Integer.rank l.hi -ℤ g.T.Integer.rank l.gap.end)
