use Rattle.blaze_table.proofs.Words.{subst, IsRangeMap, CountedEntries, range_map}
use Rattle.blaze_table.proofs.table.RangeTable.in_hand.Goals as goal

pub returns : goal.returns
returns g c = subst (λ (s : CountedEntries g.row.V.Denot). IsRangeMap g.V.PartialEq.eq g.T.Integer.low g.T.Integer.high s.entries) c.self.view_is (range_map g.V.PartialEq.eq g.met.V.Eq.laws g.T.Integer.low g.T.Integer.high _ _ c.self.invariant)
