-- Blocks of numbers that an allocator has handed out: each number of a block has the block's first number as its value.
use Rattle.std.specs.Prelude.{◌≡◌, ℕ, pos, ◌≤◌, ◌<◌, ◌+◌, List, Some, None}
use Rattle.range_map_blaze.specs.Words.{Entry, at}

-- none of the n numbers from s on has a value
abbrev pub IsFreeRun : List (Entry ℕ) → ℕ → ℕ → Type 0
IsFreeRun es s n = (k : ℕ) → s ≤ k → k < s + n → at es (pos k) ≡ None

-- each number with a value is at that value or above it, and all numbers from the value up to it have the value too
abbrev pub AreBlocks : List (Entry ℕ) → Type 0
AreBlocks es = (k v : ℕ) → at es (pos k) ≡ Some v → (v ≤ k) × ((j : ℕ) → v ≤ j → j ≤ k → at es (pos j) ≡ Some v)
