-- The ends of the last entry that starts below a key.
use Rattle.std.specs.Prelude.{◌≡◌, ℤ, List, Some}
use Rattle.std.specs.Option.{option_map}
use Rattle.blaze_entries.specs.Entries.{Entry}
use Rattle.blaze_entries.specs.Found.{range_in}
use Rattle.blaze_entries.specs.Starts.{last_below}

-- the last entry that starts below b starts at s and ends at z
abbrev pub IsLastBelow : {V : Type 0} → ℤ → ℤ → ℤ → List (Entry V) → Type 0
IsLastBelow b s z es = Some (s, z) ≡ option_map range_in (last_below b es)
