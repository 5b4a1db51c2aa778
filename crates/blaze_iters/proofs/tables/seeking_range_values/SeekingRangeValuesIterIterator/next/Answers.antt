use Rattle.blaze_iters.proofs.Words.{subst, IsLastPart, part_rest}
use Rattle.blaze_iters.proofs.tables.seeking_range_values.SeekingRangeValuesIterIterator.next.Goals as goal

pub invariant_of-self-2 : goal.invariant_of-self-2
invariant_of-self-2 g c = part_rest _ _ _ (subst (IsLastPart c.self.inside.table.now.entries) c.in_ok-start.ensures.steps c.self.invariant)
