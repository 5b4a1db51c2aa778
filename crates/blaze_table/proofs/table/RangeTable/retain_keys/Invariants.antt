use Rattle.blaze_table.proofs.Words.{pos, shown_list, AnswersAtPair}
use Rattle.blaze_table.proofs.Pairs.Keeping.{IsReached}
use Rattle.blaze_table.proofs.table.RangeTable.retain_keys.Given as goal

abbrev pub invariant-loop-start : goal.invariant-loop-start
invariant-loop-start g l =
    let rank = g.T.Integer.rank in
    (goal.iterator-loop-start g).can_next l.start-iterator
    × (goal.iterator-loop-start g).is_finite l.start-iterator
    × IsReached (AnswersAtPair g.F.Fn) l.f rank g.V.PartialEq.eq g.T.Integer.low g.T.Integer.high g.T.Integer.of_rank l.fn.self.entries l.start-iterator (pos (g.T.SafeLen.SafeLength.number l.len)) (shown_list rank l.kept.items)
