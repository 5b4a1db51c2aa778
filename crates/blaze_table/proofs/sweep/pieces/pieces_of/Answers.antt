use Rattle.std.proofs.Common.{◌≡◌, Some, refl, length, arith}
use Rattle.std.specs.Prelude.{slice_get}
use Rattle.std.specs.BinaryHeap.{heap_items}
use Rattle.std.proofs.lemmas.Option.{slice_get_read}
use Rattle.blaze_entries.specs.Entries.{shown_list}
use Rattle.blaze_table.proofs.Sweeping.Underway.{underway_none, waits_for, all_wait, underway_more}
use Rattle.blaze_table.proofs.sweep.pieces.pieces_of.Goals as goal

pub loop-i-init : goal.loop-i-init
loop-i-init g c =
    record {
      in_range = omega arith;
      heap = c.new-waiting.ensures.heap_order;
      so_far = rw (c.min_value-from.ensures, c.new-waiting.ensures.items, c.new-pieces.ensures.items)
          (underway_none g.T.Integer.rank g.T.Integer.low c.args.placed.now g.T.Integer.high c.requires.keys);
    }

pub advance-requires-clause-waits : goal.advance-requires-clause-waits
advance-requires-clause-waits g c =
    let rank = g.T.Integer.rank in
    let placed = c.args.placed.now in
    let i = c.loop-i.invariant in
    let pair = c.index-placed-i.result in
    let is : slice_get placed c.loop-i.i ≡ Some pair = slice_get_read placed (length placed) c.loop-i.i pair refl c.loop-i-test.true c.index-placed-i.is in
    waits_for rank g.T.Integer.low placed c.requires.ascending (rank c.loop-i.from) c.loop-i.i (heap_items c.loop-i.waiting) (shown_list rank c.loop-i.pieces.items) i.so_far pair is

pub advance-requires-clause-order : goal.advance-requires-clause-order
advance-requires-clause-order g c =
    let rank = g.T.Integer.rank in
    let placed = c.args.placed.now in
    let i = c.loop-i.invariant in
    let pair = c.index-placed-i.result in
    let is : slice_get placed c.loop-i.i ≡ Some pair = slice_get_read placed (length placed) c.loop-i.i pair refl c.loop-i-test.true c.index-placed-i.is in
    i.so_far.others c.loop-i.i pair is (omega arith)

pub loop-i-preserved : goal.loop-i-preserved
loop-i-preserved g c =
    let rank = g.T.Integer.rank in
    let placed = c.args.placed.now in
    let i = c.loop-i.invariant in
    let pair = c.index-placed-i.result in
    let is : slice_get placed c.loop-i.i ≡ Some pair = slice_get_read placed (length placed) c.loop-i.i pair refl c.loop-i-test.true c.index-placed-i.is in
    record {
      in_range = omega (arith, c.loop-i-test.true);
      heap = c.in_ok-push.ensures.heap_order c.advance.ensures.heap;
      so_far = underway_more rank g.T.Integer.low placed c.requires.ascending (rank c.loop-i.from) c.loop-i.i (heap_items c.loop-i.waiting) (shown_list rank c.loop-i.pieces.items) i.so_far pair is
          (heap_items c.advance.new.waiting) (heap_items c.push.new.self) (shown_list rank c.advance.new.pieces.items)
          c.in_ok-advance.ensures.waits c.in_ok-advance.ensures.kept c.in_ok-advance.ensures.made c.in_ok-push.ensures.permutation;
    }

pub sweep_to-requires-clause-waits : goal.sweep_to-requires-clause-waits
sweep_to-requires-clause-waits g c =
    let rank = g.T.Integer.rank in
    let i = c.loop-i.invariant in
    all_wait rank g.T.Integer.low c.args.placed.now c.requires.ascending (rank c.loop-i.from) c.loop-i.i (heap_items c.loop-i.waiting) (shown_list rank c.loop-i.pieces.items) i.so_far (rank c.max_value-last.result) (omega (arith, c.loop-i-test.false))
