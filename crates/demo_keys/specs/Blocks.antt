-- Blocks of numbers. The size of a block is a power of two, and its first number is a multiple of its size. The numbers
-- of a block share all binary digits except the last ones.
use Rattle.std.specs.Prelude.{◌≡◌, ℕ, ◌+◌, ◌^◌, ◌%◌, ◌≤◌}

-- a block of 2^free numbers begins at the number
abbrev pub BeginsBlock : ℕ → ℕ → Type 0
BeginsBlock start free = start % 2 ^ free ≡ 0

-- a block of 2^free numbers begins at `first` and ends at `last` or before
abbrev pub IsBlockWithin : ℕ → ℕ → ℕ → Type 0
IsBlockWithin first last free = BeginsBlock first free × (first + 2 ^ free ≤ last + 1)

-- it is the greatest block that begins at `first` and ends at `last` or before
abbrev pub IsGreatestWithin : ℕ → ℕ → ℕ → Type 0
IsGreatestWithin first last free = IsBlockWithin first last free × ((k : ℕ) → IsBlockWithin first last k → k ≤ free)
