use Rattle.range_map_blaze.proofs.Words.{if_err, ◌≡◌, [], Some, subst, slice_get, MatchOption, CountedEntries, IsAmongOthers, IsFirstKeyRemoved, Entry}
use Rattle.range_map_blaze.proofs.Order.EndPairs.{first_of, pops_least}
use Rattle.range_map_blaze.proofs.map.RangeMapBlaze.pop_first.Goals as goal

pub returns-in_err-popped-clause-refused : goal.returns-in_err-popped-clause-refused
returns-in_err-popped-clause-refused g c =
    let refused = subst (λ (s : CountedEntries g.row.V.Denot). (first : Entry g.row.V.Denot) × (slice_get s.entries 0 ≡ Some first) × IsAmongOthers first.lo s.entries) c.self.view_is c.in_err-popped.ensures.refused in
    if_err c.from_residual.result
    (refused.0.lo, refused.0.value, first_of c.args.self.now.entries refused.0 c.in_hand.ensures.runs.disjoint c.in_hand.ensures.runs.ascending refused.1, refused.2)

pub returns-clause-ok : goal.returns-clause-ok
returns-clause-ok g c =
    let rank = g.T.Integer.rank in
    let eq = g.V.PartialEq.eq in
    let new = c.pop_first.new.self in
    pops_least rank eq g.T.Integer.low g.T.Integer.high c.in_ok-popped.popped c.args.self.now new c.in_hand.ensures.runs.disjoint c.in_hand.ensures.runs.ascending
    (subst (λ (s : CountedEntries g.row.V.Denot). MatchOption c.in_ok-popped.popped ((s.entries ≡ []) × (new ≡ s)) (λ pair. IsFirstKeyRemoved eq g.T.Integer.low g.T.Integer.high (rank pair.0) pair.1 s.entries new.entries)) c.self.view_is c.in_ok-popped.ensures.ok)
