use Rattle.std.proofs.Common.{◌≡◌, ◌++◌, length, take, drop}
use Rattle.range_map_c.specs.Tables.{rows}
use Rattle.range_map_c.proofs.rows.write_rows.Given as goal

-- the rows that were written, and the entries that are left, are all entries; behind them the arrays are as they were
abbrev pub invariant-loop-i : goal.invariant-loop-i
invariant-loop-i l =
    (rows (take l.i l.lo) (take l.i l.hi) (take l.i l.value) ++ l.entries ≡ l.fn.entries)
    × (length l.hi ≡ length l.lo) × (length l.value ≡ length l.lo)
    × (drop l.i l.lo ≡ drop l.i l.initial.lo) × (drop l.i l.hi ≡ drop l.i l.initial.hi) × (drop l.i l.value ≡ drop l.i l.initial.value)
