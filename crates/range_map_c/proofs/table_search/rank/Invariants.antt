use Rattle.std.proofs.Common.{ℕ, ◌-◌, ◌≤◌, ◌<◌, pos, ◌≤ℤ◌, ◌<ℤ◌, length, slice_index_or}
use Rattle.range_map_c.proofs.table_search.rank.Given as goal

-- the keys before `low` are at most the key, and those from `high` on above it
abbrev pub invariant-loop-low : goal.invariant-loop-low
invariant-loop-low l =
    (l.low ≤ l.high) × (l.high ≤ length l.lo) × ((i : ℕ) → i < l.low → slice_index_or l.lo i (pos 0) ≤ℤ l.key)
    × ((i : ℕ) → l.high ≤ i → i < length l.lo → l.key <ℤ slice_index_or l.lo i (pos 0))

abbrev pub decreases-loop-low : goal.decreases-loop-low
decreases-loop-low l = l.high - l.low
