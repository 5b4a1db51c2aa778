use Rattle.std.proofs.Common.{◌∙◌}
use Rattle.range_map_c.specs.Handle.{least_key, greatest_key}
use Rattle.range_map_c.proofs.InOrder.{rank_below_of_key, rows_apart, row_got, next_row, told_start}
use Rattle.range_map_c.proofs.table_look_ups.range_table_next_unchecked.Goals as goal

pub first_ending_from-row-requires : goal.first_ending_from-row-requires
first_ending_from-row-requires c = rows_apart _ _ _ c.requires.his c.requires.values c.requires.ordered

pub returns-clause-entry : goal.returns-clause-entry
returns-clause-entry c =
    let rank = rank_below_of_key _ _ _ c.ranges.key c.first_ending_from-row.ensures in
    c.read_row.ensures.row
    ∙ next_row _ _ _ c.requires.his c.requires.values c.requires.ordered c.args.key c.first_ending_from-row.result rank greatest_key
    (λ lt. told_start _ _ _ _ _ (c.read_row.ensures.row ∙ row_got _ _ _ c.requires.his c.requires.values c.first_ending_from-row.result lt)
    least_key greatest_key c.read_row.ensures.keys)
