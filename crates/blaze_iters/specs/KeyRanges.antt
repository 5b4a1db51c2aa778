-- The keys of a map as ranges, without the values.
use Rattle.std.specs.Prelude.{◌≡◌, ℤ, pos, ◌+ℤ◌, if◌then◌else◌, List, [], ◌∷◌, ◌++◌, map, Option, Some, None, is_some, MatchOption}
use Rattle.std.specs.Ordering.{int_eq}
use Rattle.blaze_entries.specs.Entries.{Entry, entry, at}
use Rattle.blaze_entries.specs.RangeSets.{IsRangeSet}

-- the ranges are those of a set, and contain exactly the keys at which the entries have a value
pub record AreKeyRanges {V : Type 0} (low high : ℤ) (entries : List (Entry V)) (ranges : List (Entry (Unit {0}))) : Type 0 where
  pub range_set : IsRangeSet low high ranges
  pub same_keys : (k : ℤ) → is_some (at ranges k) ≡ is_some (at entries k)

-- the first entry is taken, given by its first and last key, or no entry exists
abbrev pub TakesEnds : {T V : Type 0} → (T → ℤ) → Option (T × T) → List (Entry V) → List (Entry V) → Type 0
TakesEnds {V = V} rank ends old new = MatchOption ends ((old ≡ []) × (new ≡ [])) (λ p. (v : V) × (old ≡ entry (rank p.0) (rank p.1) v ∷ new))

-- the last entry is taken, given by its first and last key, or no entry exists
abbrev pub TakesLastEnds : {T V : Type 0} → (T → ℤ) → Option (T × T) → List (Entry V) → List (Entry V) → Type 0
TakesLastEnds {V = V} rank ends old new = MatchOption ends ((old ≡ []) × (new ≡ [])) (λ p. (v : V) × (old ≡ new ++ entry (rank p.0) (rank p.1) v ∷ []))

-- ---- by structure

-- the range from lo to hi and the entries after it, joined if they touch
abbrev pub joined_ranges : {V : Type 0} → ℤ → ℤ → List (Entry V) → List (Entry (Unit {0}))
joined_ranges lo hi [] = entry lo hi tt ∷ []
joined_ranges lo hi (e ∷ es) = if int_eq e.lo (hi +ℤ pos 1) then joined_ranges lo e.hi es else entry lo hi tt ∷ joined_ranges e.lo e.hi es

-- the remaining ranges of an iterator with an open range and the entries after it
abbrev pub joined_left : {T V : Type 0} → (T → ℤ) → Option (T × T) → List (Entry V) → List (Entry (Unit {0}))
joined_left rank None entries = []
joined_left rank (Some p) entries = joined_ranges (rank p.0) (rank p.1) entries

-- the entries' ranges without values
abbrev pub bare_entries : {V : Type 0} → List (Entry V) → List (Entry (Unit {0}))
bare_entries es = map (λ e. entry e.lo e.hi tt) es

-- a range given by its first and last key, or no range, as a list
abbrev pub held_range : {T : Type 0} → (T → ℤ) → Option (T × T) → List (Entry (Unit {0}))
held_range rank None = []
held_range rank (Some p) = entry (rank p.0) (rank p.1) tt ∷ []

-- the entries' ranges, and then a range that was already taken
abbrev pub ranges_then : {T V : Type 0} → (T → ℤ) → List (Entry V) → Option (T × T) → List (Entry (Unit {0}))
ranges_then rank entries back = bare_entries entries ++ held_range rank back
