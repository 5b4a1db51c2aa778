use Rattle.blaze_table.proofs.Words.{◌≤ℤ◌, at}
use Rattle.blaze_table.proofs.Fills.Upwards.{IsWalked}
use Rattle.blaze_table.proofs.table.fill.gap.first_gap.Given as goal

-- the keys before `key` have values
abbrev pub invariant-loop-first : goal.invariant-loop-first
invariant-loop-first g l =
    let rank = g.T.Integer.rank in
    (goal.iterator-loop-first g).can_next l.first-iterator
    × (goal.iterator-loop-first g).is_finite l.first-iterator
    × (rank l.key ≤ℤ rank l.end)
    × IsWalked g.V.PartialEq.eq l.value (at l.entries.counted.entries) (rank l.fn.start) (rank l.key) l.is_equal l.first-iterator
