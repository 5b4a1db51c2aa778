-- The result of removing keys: one key, a range of keys, or all keys below or from a key on.
use Rattle.std.specs.Prelude.{◌≡◌, ◌⊎◌, ◌-◌, length, ℤ, ◌≤ℤ◌, ◌<ℤ◌, int_le, int_lt, Bool, ◌&&◌, if◌then◌else◌, List, Option, Some, None}
use Rattle.std.specs.List.{Contains, slice_get}
use Rattle.std.specs.Option.{option_map}
use Rattle.std.specs.Ordering.{int_eq}
use Rattle.blaze_entries.specs.Entries.{Entry, at, entry_at, SameOption}
use Rattle.blaze_entries.specs.Canonical.{IsRangeMap}

-- the content without the key k
abbrev pub cut_at : {V : Type 0} → ℤ → (ℤ → Option V) → ℤ → Option V
cut_at k content j = if int_eq j k then None else content j

-- the content without the keys from l to h
abbrev pub cut_range_at : {V : Type 0} → ℤ → ℤ → (ℤ → Option V) → ℤ → Option V
cut_range_at l h content j = if int_le l j && int_le j h then None else content j

-- the content at the keys below k only
abbrev pub below_at : {V : Type 0} → ℤ → (ℤ → Option V) → ℤ → Option V
below_at k content j = if int_lt j k then content j else None

-- the content at the keys from k on only
abbrev pub from_at : {V : Type 0} → ℤ → (ℤ → Option V) → ℤ → Option V
from_at k content j = if int_le k j then content j else None

-- the effect of removing the key k from a range map: it has no value, and each other key has its old one
pub record IsKeyRemoved {V : Type 0} (eq : V → V → Bool) (low high : ℤ) (k : ℤ) (old new : List (Entry V)) : Type 0 where
  pub range_map : IsRangeMap eq low high new
  pub content : (j : ℤ) → SameOption eq (at new j) (cut_at k (at old) j)
  pub here : at new k ≡ None
  pub others : (j : ℤ) → (j <ℤ k) ⊎ (k <ℤ j) → SameOption eq (at new j) (at old j)

-- the first entry's first key was removed, and its value was equal to the returned one
pub record IsFirstKeyRemoved {V : Type 0} (eq : V → V → Bool) (low high k : ℤ) (value : V) (old new : List (Entry V)) : Type 0 where
  pub first : option_map (λ e. e.lo) (slice_get old 0) ≡ Some k
  pub equal : SameOption eq (at old k) (Some value)
  pub cut : IsKeyRemoved eq low high k old new

-- the last entry's last key was removed, and its value was equal to the returned one
pub record IsLastKeyRemoved {V : Type 0} (eq : V → V → Bool) (low high k : ℤ) (value : V) (old new : List (Entry V)) : Type 0 where
  pub last : option_map (λ e. e.hi) (slice_get old (length old - 1)) ≡ Some k
  pub equal : SameOption eq (at old k) (Some value)
  pub cut : IsKeyRemoved eq low high k old new

-- the entry that contains the key k has other keys too
pub record IsAmongOthers {V : Type 0} (k : ℤ) (entries : List (Entry V)) : Type 0 where
  pub entry : Entry V
  pub here : entry_at entries k ≡ Some entry
  pub long : entry.lo <ℤ entry.hi

-- The effect of removing the keys from l to h from a range map: none of them has a value, and each other key has its old
-- one. An entry with none of these keys remains, with its very value.
pub record IsRangeCut {V : Type 0} (eq : V → V → Bool) (low high : ℤ) (l h : ℤ) (old new : List (Entry V)) : Type 0 where
  pub range_map : IsRangeMap eq low high new
  pub content : (j : ℤ) → SameOption eq (at new j) (cut_range_at l h (at old) j)
  pub inside : (j : ℤ) → l ≤ℤ j → j ≤ℤ h → at new j ≡ None
  pub outside : (j : ℤ) → (j <ℤ l) ⊎ (h <ℤ j) → SameOption eq (at new j) (at old j)
  pub kept : (e : Entry V) → Contains old e → (e.hi <ℤ l) ⊎ (h <ℤ e.lo) → Contains new e

-- the entry that contains the key h has keys above it too
pub record GoesOnAbove {V : Type 0} (h : ℤ) (entries : List (Entry V)) : Type 0 where
  pub entry : Entry V
  pub here : entry_at entries h ≡ Some entry
  pub above : h <ℤ entry.hi

-- the results of a split at k: the part of the range map below k, and the part from k on
pub record IsSplit {V : Type 0} (eq : V → V → Bool) (low high : ℤ) (k : ℤ) (old below from : List (Entry V)) : Type 0 where
  pub below_range_map : IsRangeMap eq low high below
  pub from_range_map : IsRangeMap eq low high from
  pub below_content : (j : ℤ) → SameOption eq (at below j) (below_at k (at old) j)
  pub from_content : (j : ℤ) → SameOption eq (at from j) (from_at k (at old) j)
