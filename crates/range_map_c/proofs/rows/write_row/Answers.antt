use Rattle.std.proofs.Common.{rules}
use Rattle.range_map_c.proofs.RowLists.{row_written}
use Rattle.range_map_c.proofs.rows.write_row.Goals as goal

pub returns-in-Some-clause-row : goal.returns-in-Some-clause-row
returns-in-Some-clause-row c = λ _.
    row_written c.args.lo.now c.args.hi.now c.args.value.now c.args.i c.requires.his c.requires.values _ _ _ _ _ _ c.requires.place c.in-Some.ensures (search rules) (search rules) (search rules)
