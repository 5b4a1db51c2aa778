use Rattle.blaze_table.proofs.Words.{unit_eq, IsRangeMap-rest, unit_laws}
use Rattle.blaze_table.proofs.set.ranges_iter.RangesIterIterator.next.Goals as goal

pub invariant_of-self-2 : goal.invariant_of-self-2
invariant_of-self-2 g c = IsRangeMap-rest unit_eq unit_laws _ _ _ _ (rw c.in_ok-start.ensures.steps at c.self.invariant)
