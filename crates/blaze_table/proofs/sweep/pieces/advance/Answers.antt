use Rattle.std.proofs.Common.{sym, subst, ◌∙◌, ◌-ℤ◌, pos, arith}
use Rattle.std.proofs.lemmas.Int.{ints}
use Rattle.std.specs.BinaryHeap.{heap_items}
use Rattle.blaze_int.proofs.Comparisons.{le_fails}
use Rattle.blaze_table.specs.Pieces.{IsWaiting}
use Rattle.blaze_table.proofs.Sweeping.Waitings.{waiting_kept, waiting_from, waiting_moved}
use Rattle.blaze_table.proofs.sweep.pieces.advance.Goals as goal

pub returns-then-is_at_most-clause-waits : goal.returns-then-is_at_most-clause-waits
returns-then-is_at_most-clause-waits g c =
    let rank = g.T.Integer.rank in
    waiting_from rank c.args.placed.now (rank c.args.from) (rank c.args.start -ℤ pos 1) (heap_items c.args.waiting.now) c.requires.waits (rank c.args.start) c.requires.order

pub sweep_to-requires-clause-waits : goal.sweep_to-requires-clause-waits
sweep_to-requires-clause-waits g c =
    let rank = g.T.Integer.rank in
    subst (λ t. IsWaiting rank c.args.placed.now (rank c.args.from) t (heap_items c.args.waiting.now)) (omega (arith, ints, c.sub_one.ensures)) c.requires.waits

pub returns-clause-waits : goal.returns-clause-waits
returns-clause-waits g c =
    let rank = g.T.Integer.rank in
    waiting_moved rank c.args.placed.now (heap_items c.sweep_to.new.waiting) (rank c.sub_one.result) (rank c.args.start) (omega (arith, ints, c.sub_one.ensures)) c.in_ok-sweep_to.ensures.waits

pub returns-clause-kept : goal.returns-clause-kept
returns-clause-kept g c =
    let rank = g.T.Integer.rank in
    let placed = c.args.placed.now in
    waiting_kept rank placed (rank c.args.from) (rank c.args.start -ℤ pos 1) (rank c.args.start) (heap_items c.args.waiting.now) (heap_items c.sweep_to.new.waiting) c.requires.waits
    (waiting_moved rank placed (heap_items c.sweep_to.new.waiting) (rank c.sub_one.result) (rank c.args.start) (omega (arith, ints, c.sub_one.ensures)) c.in_ok-sweep_to.ensures.waits)
    (le_fails (rank c.args.start) (rank c.args.from) (sym c.is_at_most.ensures ∙ c.if-is_at_most.false))
