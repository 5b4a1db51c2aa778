use Rattle.blaze_iters.proofs.Words.{sym, ◌∙◌}
use Rattle.blaze_iters.proofs.Joined.{after_gap}
use Rattle.blaze_iters.proofs.tables.key_ranges.KeyRangesIterator.next.Goals as goal

pub invariant_of-self-then-not-is_next : goal.invariant_of-self-then-not-is_next
invariant_of-self-then-not-is_next g c =
    after_gap g.T.Integer.low g.T.Integer.high _ _ _ _ _ _ c.self.invariant (c.loop-next_start.invariant.left ∙ sym c.self.view_is) c.in-Some.ensures.1 (sym c.is_next.ensures ∙ c.if-not-is_next.true)
