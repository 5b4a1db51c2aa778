use Rattle.blaze_table.proofs.Words.{into_iter_items, shown_list}
use Rattle.blaze_table.proofs.Sweeping.JoinedPieces.{IsJoined}
use Rattle.blaze_table.proofs.sweep.ascending.joined_entries.Given as goal

abbrev pub invariant-loop-start : goal.invariant-loop-start
invariant-loop-start g l =
    let rank = g.T.Integer.rank in
    IsJoined g.V.PartialEq.eq g.T.Integer.low g.T.Integer.high (shown_list rank l.fn.pairs.items) (shown_list rank (into_iter_items l.start-iterator)) (shown_list rank l.entries.items)
