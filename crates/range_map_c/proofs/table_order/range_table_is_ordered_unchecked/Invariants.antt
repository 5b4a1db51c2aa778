use Rattle.std.proofs.Common.{ℕ, suc, ◌<◌, pos, ◌≤ℤ◌, ◌<ℤ◌, slice_index_or}
use Rattle.range_map_c.proofs.table_order.range_table_is_ordered_unchecked.Given as goal

-- the rows before row i are in order
abbrev pub invariant-loop-i : goal.invariant-loop-i
invariant-loop-i l =
    ((j : ℕ) → j < l.i → slice_index_or l.lo j (pos 0) ≤ℤ slice_index_or l.hi j (pos 0))
    × ((j : ℕ) → suc j < l.i → slice_index_or l.hi j (pos 0) <ℤ slice_index_or l.lo (suc j) (pos 0))
