use Rattle.std.proofs.Common.{◌≤ℤ◌}
use Rattle.std.specs.BinaryHeap.{IsHeap, heap_items, heap_len}
use Rattle.blaze_entries.specs.Entries.{shown_list}
use Rattle.blaze_table.specs.Pieces.{place_cmp, IsWaiting, ArePieces}
use Rattle.blaze_table.proofs.sweep.pieces.sweep_to.Given as goal

-- the pieces below the key `at` are complete, and the pairs with a key from `at` on wait
abbrev pub invariant-loop-top : goal.invariant-loop-top
invariant-loop-top g l =
    let rank = g.T.Integer.rank in
    record {
      order : rank l.at ≤ℤ rank l.fn.to;
      heap : IsHeap place_cmp (heap_items l.waiting);
      waits : IsWaiting rank l.placed (rank l.at) (rank l.fn.to) (heap_items l.waiting);
      made : ArePieces rank l.placed g.T.Integer.low (rank l.at) (shown_list rank l.pieces.items);
    }

abbrev pub decreases-loop-top : goal.decreases-loop-top
decreases-loop-top g l = heap_len l.waiting
