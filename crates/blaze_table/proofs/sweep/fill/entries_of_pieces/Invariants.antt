use Rattle.std.proofs.Common.{pos, ◌+ℤ◌}
use Rattle.std.specs.Vec.Iter.{into_iter_items}
use Rattle.blaze_entries.specs.Entries.{shown_list}
use Rattle.blaze_table.proofs.Sweeping.Filling.{IsFilledSoFar}
use Rattle.blaze_table.proofs.sweep.fill.entries_of_pieces.Given as goal

abbrev pub invariant-loop-start : goal.invariant-loop-start
invariant-loop-start g l =
    let rank = g.T.Integer.rank in
    IsFilledSoFar g.V.PartialEq.eq rank g.T.Integer.low g.T.Integer.high l.fn.placed.items (g.T.Integer.high +ℤ pos 1) (shown_list rank (into_iter_items l.start-iterator)) (shown_list rank l.entries.items) l.values.items
