use Rattle.blaze_table.proofs.Words.{◌≡◌, drop, below, from, IsWorked}
use Rattle.blaze_table.proofs.edit.room.clear_above.Given as goal

-- the number of removed entries is the loop's counter
abbrev pub invariant-loop-turn : goal.invariant-loop-turn
invariant-loop-turn g l = record {
  below : below (g.T.Integer.rank l.next) l.entries.entries ≡ below (g.T.Integer.rank l.next) l.fn.entries.entries;
  from : from (g.T.Integer.rank l.next) l.entries.entries ≡ drop l._turn (from (g.T.Integer.rank l.next) l.fn.entries.entries);
  worked : IsWorked 0 0 l.fn.entries l.entries;
}
