use Rattle.std.proofs.Common.{◌≡◌, ◌≤◌, length, ap, sym, rules, arith}
use Rattle.range_map_c.proofs.RowLists.{rows_taken, rows_counted, count_all, count_full}
use Rattle.range_map_c.proofs.rows.write_rows.Goals as goal

pub returns-then-not-write_row-clause-rows : goal.returns-then-not-write_row-clause-rows
returns-then-not-write_row-clause-rows c =
    let none = c.if-not-write_row.ensures.none (search rules) in
    let room : c.loop-i.i ≤ length c.loop-i.lo = omega arith in
    rw none.1 (rw none.2 (rw none.3 (rows_taken _ _ _ _ c.loop-i.invariant.1 c.loop-i.invariant.2 _ _ room c.loop-i.invariant.0)))

pub returns-then-not-write_row-clause-all : goal.returns-then-not-write_row-clause-all
returns-then-not-write_row-clause-all c =
    let none = c.if-not-write_row.ensures.none (search rules) in
    let room : c.loop-i.i ≤ length c.loop-i.lo = omega arith in
    count_all _ _ _ _ (rows_counted _ _ _ _ c.loop-i.invariant.1 c.loop-i.invariant.2 _ _ room c.loop-i.invariant.0) (ap length none.0) (omega arith)

pub returns-clause-rows : goal.returns-clause-rows
returns-clause-rows c =
    let is : c.loop-i.i ≡ length c.loop-i.lo = omega arith in
    rw (sym is) (rows_taken _ _ _ _ c.loop-i.invariant.1 c.loop-i.invariant.2 _ _ (omega arith) c.loop-i.invariant.0)

pub returns-clause-all : goal.returns-clause-all
returns-clause-all c =
    let is : c.loop-i.i ≡ length c.loop-i.lo = omega arith in
    rw (sym is) (count_full _ _ _ _ (rows_counted _ _ _ _ c.loop-i.invariant.1 c.loop-i.invariant.2 _ _ (omega arith) c.loop-i.invariant.0) (omega arith))
