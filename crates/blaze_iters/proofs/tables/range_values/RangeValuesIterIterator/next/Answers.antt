use Rattle.blaze_iters.proofs.Words.{IsRangeMap-rest}
use Rattle.blaze_iters.proofs.tables.range_values.RangeValuesIterIterator.next.Goals as goal

pub invariant_of-self-2 : goal.invariant_of-self-2
invariant_of-self-2 g c = IsRangeMap-rest g.V.PartialEq.eq g.met.V.Eq.laws _ _ _ _ (rw c.in_ok-start.ensures.steps at c.self.invariant)
