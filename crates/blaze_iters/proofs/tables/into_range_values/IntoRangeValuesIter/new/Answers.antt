use Rattle.blaze_iters.proofs.Words.{ap, map, subst, sym, ◌∙◌, rc_value, IsRangeMap, shown_entry}
use Rattle.blaze_iters.proofs.tables.into_range_values.IntoRangeValuesIter.new.Goals as goal

pub returns : goal.returns
returns g c = ap (map (shown_entry g.T.Integer.rank rc_value)) c.into_iter.ensures.rest ∙ c.in_ok-entries.ensures

pub invariant_of-result : goal.invariant_of-result
invariant_of-result g c = subst (IsRangeMap g.V.PartialEq.eq g.T.Integer.low g.T.Integer.high) (sym (returns g c)) c.in_hand.ensures
