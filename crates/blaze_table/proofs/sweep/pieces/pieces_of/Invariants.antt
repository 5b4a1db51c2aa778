use Rattle.std.proofs.Common.{length, ◌-◌, ◌≤◌}
use Rattle.std.specs.BinaryHeap.{IsHeap, heap_items}
use Rattle.blaze_entries.specs.Entries.{shown_list}
use Rattle.blaze_table.specs.Pieces.{place_cmp, IsSweptSoFar}
use Rattle.blaze_table.proofs.sweep.pieces.pieces_of.Given as goal

abbrev pub invariant-loop-i : goal.invariant-loop-i
invariant-loop-i g l =
    let rank = g.T.Integer.rank in
    record {
      in_range : l.i ≤ length l.placed;
      heap : IsHeap place_cmp (heap_items l.waiting);
      so_far : IsSweptSoFar rank g.T.Integer.low l.placed (rank l.from) l.i (heap_items l.waiting) (shown_list rank l.pieces.items);
    }

abbrev pub decreases-loop-i : goal.decreases-loop-i
decreases-loop-i g l = length l.placed - l.i
