-- A map out of which some ranges are cut.
use Rattle.std.specs.Prelude.{ℤ, Bool, List}
use Rattle.blaze_entries.specs.Entries.{Entry, at, SameOption}
use Rattle.blaze_entries.specs.Chosen.{left_alone}

-- A list that equals another outside of the ranges' keys, so that cutting all the ranges out of either gives the same.
abbrev pub IsAlikeOff : {A V : Type 0} → (V → V → Bool) → List (Entry A) → List (Entry V) → List (Entry V) → Type 0
IsAlikeOff eq ranges old new = (k : ℤ) → SameOption eq (left_alone (at new k) (at ranges k)) (left_alone (at old k) (at ranges k))
