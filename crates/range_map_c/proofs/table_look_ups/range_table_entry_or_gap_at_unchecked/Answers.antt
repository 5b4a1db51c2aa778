use Rattle.std.proofs.Common.{◌≡◌, ◌<◌, pos, ◌<ℤ◌, length, slice_index_or, refl, ◌∙◌, arith, w64, to_z, of_z}
use Rattle.std.proofs.lemmas.Int.{ints}
use Rattle.range_map_c.specs.Handle.{least_key, greatest_key}
use Rattle.range_map_c.proofs.InOrder.{rank_below_of_key, rows_apart, row_got, row_at, gap_at, gap_round, piece_told}
use Rattle.range_map_c.proofs.table_look_ups.range_table_entry_or_gap_at_unchecked.Goals as goal
use Rattle.range_map_c.proofs.table_look_ups.range_table_entry_or_gap_at_unchecked.Goals.{else-row-lo-via-then-row-lo+else-lo-row, else-row-lo-via-else-row-lo}

pub first_ending_from-row-requires : goal.first_ending_from-row-requires
first_ending_from-row-requires c = rows_apart _ _ _ c.requires.his c.requires.values c.requires.ordered

pub returns-then-lo-row : goal.returns-then-lo-row
returns-then-lo-row c =
    let rank = rank_below_of_key _ _ _ c.ranges.key c.first_ending_from-row.ensures in
    record {
      piece = piece_told _ _ _ _ _ _ _ (c.read_row.ensures.row ∙ row_got _ _ _ c.requires.his c.requires.values c.first_ending_from-row.result (omega arith))
          (row_at _ _ _ c.requires.his c.requires.values c.requires.ordered c.args.key c.first_ending_from-row.result (omega arith)
          (grind (arith, ints)) (rank.after c.first_ending_from-row.result (omega arith) (omega arith)));
    }

pub returns : goal.returns
returns c =
    let start : to_z w64 (of_z w64 c.gap_start.result) ≡ c.gap_start.result = omega (arith, ints) in
    let end : to_z w64 (of_z w64 c.gap_end.result) ≡ c.gap_end.result = omega (arith, ints) in
    let rank = rank_below_of_key _ _ _ c.ranges.key c.first_ending_from-row.ensures in
    let above : c.first_ending_from-row.result < length c.args.lo.now → c.args.key <ℤ slice_index_or c.args.lo.now c.first_ending_from-row.result (pos 0) = elim c.else-row-lo.branch [
      | else-row-lo-via-then-row-lo+else-lo-row w ↦ λ lt. grind (arith, ints, w.if-lo-row.false)
      | else-row-lo-via-else-row-lo w ↦ λ lt. absurd (omega (arith, w.if-row-lo.false))
    ] in
    record {
      piece = rw start (rw end (
        gap_at _ _ _ c.requires.his c.requires.values c.requires.ordered c.args.key c.first_ending_from-row.result rank above,
        gap_round _ _ _ c.requires.his c.requires.values c.requires.ordered c.args.key c.first_ending_from-row.result rank least_key greatest_key c.gap_start.result c.gap_end.result above
            (omega (arith, ints)) (omega (arith, ints)) (omega (arith, ints)) (omega (arith, ints))
            c.gap_start.ensures.first c.gap_start.ensures.later c.gap_end.ensures.last c.gap_end.ensures.earlier,
        refl,
      ));
    }
