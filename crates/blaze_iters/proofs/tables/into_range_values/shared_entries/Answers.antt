use Rattle.blaze_iters.proofs.Words.{append_assoc, sym, ◌∙◌, map-append}
use Rattle.std.proofs.Common.{append-nil}
use Rattle.blaze_iters.proofs.tables.into_range_values.shared_entries.Goals as goal

pub loop-entry-preserved : goal.loop-entry-preserved
loop-entry-preserved g c =
    rw (c.in_ok-push.ensures.items, map-append, append_assoc, c.in_ok-shared.ensures) (rw c.in-Some.ensures.steps at c.loop-entry.invariant)

pub loop-entry-smaller : goal.loop-entry-smaller
loop-entry-smaller g c = (c.in-Some.ensures.goes.on c.loop-entry.iterator.1).2

pub returns : goal.returns
returns g c = sym (append-nil _) ∙ (rw c.in-None.ensures.steps.0 at c.loop-entry.invariant)
