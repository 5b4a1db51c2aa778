use Rattle.std.proofs.Common.{◌≡◌, pos, slice_index_or, sym, arith, w64, to_z, of_z}
use Rattle.std.proofs.lemmas.Int.{ints}
use Rattle.range_map_c.proofs.InOrder.{row_got, row_past}
use Rattle.range_map_c.proofs.table_search.read_row.Goals as goal

pub returns-then-row-lo-clause-row : goal.returns-then-row-lo-clause-row
returns-then-row-lo-clause-row c = sym (row_past _ _ _ c.requires.his c.requires.values c.args.row (omega arith))

pub returns-clause-row : goal.returns-clause-row
returns-clause-row c =
    let start : to_z w64 (of_z w64 (slice_index_or c.args.lo.now c.args.row (pos 0))) ≡ slice_index_or c.args.lo.now c.args.row (pos 0) = omega (arith, ints) in
    let end : to_z w64 (of_z w64 (slice_index_or c.args.hi.now c.args.row (pos 0))) ≡ slice_index_or c.args.hi.now c.args.row (pos 0) = omega (arith, ints) in
    rw start (rw end (sym (row_got _ _ _ c.requires.his c.requires.values c.args.row (omega arith))))
