-- A map with its gaps filled: every key of the type has a value, `Some` of its old one or `None`.
use Rattle.std.specs.Prelude.{ℤ, ◌≤ℤ◌, Bool, List, Option, Some}
use Rattle.std.specs.Option.{option_eq}
use Rattle.blaze_entries.specs.Entries.{Entry, at, SameOption}
use Rattle.blaze_entries.specs.Canonical.{IsRangeMap}

-- a range map that has a value at every key from low to high: `Some` of a value equal to that of the entries, and
-- `None` where they have none
pub record AreGapsFilled {V : Type 0} (eq : V → V → Bool) (low high : ℤ) (entries : List (Entry V)) (new : List (Entry (Option V))) : Type 0 where
  pub range_map : IsRangeMap (option_eq eq) low high new
  pub content : (k : ℤ) → low ≤ℤ k → k ≤ℤ high → SameOption (option_eq eq) (at new k) (Some (at entries k))
