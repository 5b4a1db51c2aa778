use Rattle.std.proofs.Common.{◌≡◌, ◌+◌, length, drop}
use Rattle.std.specs.Vec.Iter.{into_iter_items}
use Rattle.blaze_entries.specs.Entries.{shown_list}
use Rattle.blaze_table.specs.Pieces.{ArePairsPlacedBelow}
use Rattle.blaze_table.proofs.sweep.placed.placed_of.Given as goal

abbrev pub invariant-loop-start : goal.invariant-loop-start
invariant-loop-start g l =
    let rank = g.T.Integer.rank in
    record {
      in_all : l.count + length (into_iter_items l.start-iterator) ≡ length l.fn.pairs.items;
      rest : drop l.count (shown_list rank l.fn.pairs.items) ≡ shown_list rank (into_iter_items l.start-iterator);
      so_far : ArePairsPlacedBelow rank (shown_list rank l.fn.pairs.items) l.count l.placed.items;
    }
