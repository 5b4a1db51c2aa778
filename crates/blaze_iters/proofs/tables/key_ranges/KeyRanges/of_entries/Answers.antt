use Rattle.blaze_iters.proofs.Words.{sym, subst, IsRangeSet, AreKeyRanges}
use Rattle.blaze_iters.proofs.Joined.{left_of}
use Rattle.blaze_iters.proofs.JoinedBack.{joined_none}
use Rattle.blaze_iters.proofs.tables.key_ranges.KeyRanges.of_entries.Goals as goal

pub invariant_of-result : goal.invariant_of-result
invariant_of-result g c =
    let rank = g.T.Integer.rank in
    let left = g.I.EntryEnds.left c.next_ends-open.new.self in
    subst (IsRangeSet g.T.Integer.low g.T.Integer.high) (sym (joined_none rank c.next_ends-open.result left))
    (left_of g.I.Value.PartialEq.eq g.met.I.Value.Eq.laws g.T.Integer.low g.T.Integer.high rank _ _ _ c.requires c.next_ends-open.ensures).range_set

pub returns : goal.returns
returns g c =
    let rank = g.T.Integer.rank in
    let left = g.I.EntryEnds.left c.next_ends-open.new.self in
    subst (AreKeyRanges g.T.Integer.low g.T.Integer.high (g.I.EntryEnds.left c.args.entries)) (sym (joined_none rank c.next_ends-open.result left))
    (left_of g.I.Value.PartialEq.eq g.met.I.Value.Eq.laws g.T.Integer.low g.T.Integer.high rank _ _ _ c.requires c.next_ends-open.ensures)
