use Rattle.std.proofs.Common.{◌≡◌, ◌-◌, subst, ◌∙◌, arith}
use Rattle.range_map_c.specs.Handle.{least_key, greatest_key}
use Rattle.range_map_c.specs.Ordered.{IsRank}
use Rattle.range_map_c.proofs.InOrder.{rank_of_key, sorted, rows_apart, row_got, previous_row, none_previous, told_end}
use Rattle.range_map_c.proofs.table_look_ups.range_table_previous_unchecked.Goals as goal

pub rank-n-requires : goal.rank-n-requires
rank-n-requires c = sorted _ _ (rows_apart _ _ _ c.requires.his c.requires.values c.requires.ordered)

pub returns-then-n-eq0-clause-entry : goal.returns-then-n-eq0-clause-entry
returns-then-n-eq0-clause-entry c =
    let none : c.rank-n.result ≡ 0 = omega arith in
    let rank = subst (λ n. IsRank c.args.lo.now c.args.key n) none (rank_of_key _ _ _ c.ranges.key c.rank-n.ensures) in
    none_previous _ _ _ c.requires.his c.requires.values c.requires.ordered c.args.key least_key rank

pub returns-clause-entry : goal.returns-clause-entry
returns-clause-entry c =
    let rank = rank_of_key _ _ _ c.ranges.key c.rank-n.ensures in
    let within = rank.within in
    c.read_row.ensures.row
    ∙ previous_row _ _ _ c.requires.his c.requires.values c.requires.ordered c.args.key least_key c.rank-n.result (c.rank-n.result - 1) rank (omega arith)
    (told_end _ _ _ _ _ (c.read_row.ensures.row ∙ row_got _ _ _ c.requires.his c.requires.values (c.rank-n.result - 1) (omega arith))
    least_key greatest_key c.read_row.ensures.keys)
