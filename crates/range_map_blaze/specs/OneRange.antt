-- A single range.
use Rattle.std.specs.Prelude.{ℤ, List, [], ◌∷◌}
use Rattle.blaze_entries.specs.Entries.{Entry, entry}

-- the range from lo up to hi alone, as a list of entries with the unit value
abbrev pub one_range : ℤ → ℤ → List (Entry (Unit {0}))
one_range lo hi = entry lo hi tt ∷ []
