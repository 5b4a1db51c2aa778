-- Ranges without values, seen as entries with the unit value, and the ranges of a set.
use Rattle.std.specs.Prelude.{◌≡◌, ℤ, Bool, true, List, map, refl}
use Rattle.std.specs.Coded.{Coded, code_by, coded×, coded_ℤ}
use Rattle.std.specs.declared.ops.RangeInclusive.{RangeInclusive}
use Rattle.std.specs.Range.{range_inclusive_start, range_inclusive_end}
use Rattle.blaze_entries.specs.Entries.{Entry, at}
use Rattle.blaze_entries.specs.Canonical.{IsRangeMap}
use Rattle.blaze_entries.specs.Equality.{same_entries}

-- a range without a value, as an entry with the unit value
abbrev pub shown_bare_range : {T : Type 0} → (T → ℤ) → RangeInclusive T → Entry (Unit {0})
shown_bare_range rank r = record { lo = rank (range_inclusive_start r); hi = rank (range_inclusive_end r); value = tt }

-- a list of ranges without values, as entries
abbrev pub shown_bare_ranges : {T : Type 0} → (T → ℤ) → List (RangeInclusive T) → List (Entry (Unit {0}))
shown_bare_ranges rank ranges = map (shown_bare_range rank) ranges

-- an entry with the unit value is stored as its two ends
abbrev pub bare_code : Coded (Entry (Unit {0}))
bare_code = code_by (ℤ × ℤ) (coded× coded_ℤ coded_ℤ) (λ e. (e.lo, e.hi)) (λ p. record { lo = p.0; hi = p.1; value = tt }) (λ _. refl)

-- unit values are always equal
abbrev pub unit_eq : Unit {0} → Unit {0} → Bool
unit_eq x y = true

-- the ranges of every set are those of a range map with one value, so no two touch
abbrev pub IsRangeSet : ℤ → ℤ → List (Entry (Unit {0})) → Type 0
IsRangeSet low high ranges = IsRangeMap unit_eq low high ranges

-- the set contains exactly the keys that are in at least one of the ranges
pub record IsSetOf (low high : ℤ) (ranges set : List (Entry (Unit {0}))) : Type 0 where
  pub range_set : IsRangeSet low high set
  pub same_keys : (k : ℤ) → at set k ≡ at ranges k

-- whether two lists of ranges are the same
abbrev pub same_ranges : List (Entry (Unit {0})) → List (Entry (Unit {0})) → Bool
same_ranges = same_entries unit_eq
