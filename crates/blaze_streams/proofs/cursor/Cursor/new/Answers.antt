use Rattle.blaze_streams.proofs.Words.{canonical}
use Rattle.blaze_streams.proofs.cursor.Cursor.new.Goals as goal

pub invariant_of-result : goal.invariant_of-result
invariant_of-result g c = (c.take_first-head.ensures.none, rw c.take_first-head.ensures.left (canonical g.VC.Value.PartialEq.eq g.met.VC.Value.Eq.laws _ c.in_hand.ensures.runs))
