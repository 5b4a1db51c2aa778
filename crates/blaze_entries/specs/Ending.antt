-- The entries that end at a key or above it, and the entries that share a key with a range.
use Rattle.std.specs.Prelude.{ℤ, int_le, List}
use Rattle.std.specs.List.{filter}
use Rattle.blaze_entries.specs.Starts.{up_to}
use Rattle.blaze_entries.specs.Entries.{Entry}

-- the entries that end at k or above
abbrev pub ending_from : {V : Type 0} → ℤ → List (Entry V) → List (Entry V)
ending_from k es = filter (λ e. int_le k e.hi) es

-- The entries that share a key with the range from l to h, where l is at most h. They end at l or above, and start up
-- to h.
abbrev pub overlapping : {V : Type 0} → ℤ → ℤ → List (Entry V) → List (Entry V)
overlapping l h es = up_to h (ending_from l es)
