-- The least and the greatest key of a content, with their values.
use Rattle.std.specs.Prelude.{◌≡◌, ◌<ℤ◌, ℤ, Bool, List, Option, Some, None}
use Rattle.blaze_entries.specs.Entries.{Entry, at, SameOption}
use Rattle.blaze_entries.specs.Cut.{IsKeyRemoved}

-- the key has the value, and no key below it has one
pub record IsFirstPair {V : Type 0} (content : ℤ → Option V) (k : ℤ) (value : V) : Type 0 where
  pub here : content k ≡ Some value
  pub none_below : (j : ℤ) → j <ℤ k → content j ≡ None

-- the key has the value, and no key above it has one
pub record IsLastPair {V : Type 0} (content : ℤ → Option V) (k : ℤ) (value : V) : Type 0 where
  pub here : content k ≡ Some value
  pub none_above : (j : ℤ) → k <ℤ j → content j ≡ None

-- the least key is removed, which had a value equal to the returned one
pub record PopsFirst {V : Type 0} (eq : V → V → Bool) (low high k : ℤ) (value : V) (old new : List (Entry V)) : Type 0 where
  pub stored : V
  pub first : IsFirstPair (at old) k stored
  pub equal : SameOption eq (at old k) (Some value)
  pub cut : IsKeyRemoved eq low high k old new

-- the greatest key is removed, which had a value equal to the returned one
pub record PopsLast {V : Type 0} (eq : V → V → Bool) (low high k : ℤ) (value : V) (old new : List (Entry V)) : Type 0 where
  pub stored : V
  pub last : IsLastPair (at old) k stored
  pub equal : SameOption eq (at old k) (Some value)
  pub cut : IsKeyRemoved eq low high k old new
