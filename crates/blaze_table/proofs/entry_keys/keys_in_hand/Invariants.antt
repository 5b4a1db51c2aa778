use Rattle.blaze_table.proofs.Words.{drop, AreKeys, shown_list}
use Rattle.blaze_table.proofs.entry_keys.keys_in_hand.Given as goal

-- the ends of the visited entries are keys
abbrev pub invariant-loop-start : goal.invariant-loop-start
invariant-loop-start g l =
    let rank = g.T.Integer.rank in
    AreKeys g.T.Integer.low g.T.Integer.high (shown_list rank (drop l.start-index l.entries)) → AreKeys g.T.Integer.low g.T.Integer.high (shown_list rank l.entries)
