use Rattle.range_map_blaze.proofs.Words.{canonical}
use Rattle.range_map_blaze.proofs.compare.entries_left.EntriesLeft.new.Goals as goal

pub invariant_of-result : goal.invariant_of-result
invariant_of-result g c = (c.take_first-first.ensures.none, rw (c.take_first-first.ensures.left, c.iter-others.ensures) (canonical g.V.PartialEq.eq g.met.V.Eq.laws _ c.in_hand.ensures.runs))
