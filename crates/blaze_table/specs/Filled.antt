-- The result of a fill: the keys of a range that have no value get one.
use Rattle.std.specs.List.{Contains}
use Rattle.std.specs.Option.{option_or}
use Rattle.std.specs.Prelude.{◌≡◌, ◌⊎◌, ℤ, pos, ◌+ℤ◌, ◌≤ℤ◌, ◌<ℤ◌, int_le, Bool, ◌&&◌, if◌then◌else◌, List, Option, Some, None, IsSome}
use Rattle.blaze_entries.specs.Entries.{Entry, entry, at, SameOption}
use Rattle.blaze_entries.specs.Canonical.{IsRangeMap, IsRunStart, IsRunEnd}
use Rattle.blaze_table.specs.Gap.{IsClearFrom}

-- the content after the keys from l to h without a value get v; a key with a value keeps it
abbrev pub filled_content : {V : Type 0} → ℤ → ℤ → V → (ℤ → Option V) → ℤ → Option V
filled_content l h v content k = option_or (content k) (if int_le l k && int_le k h then Some v else None)

-- an entry of the list starts where e starts, ends where e ends or above, and has the very value of e
abbrev pub IsKeptIn : {V : Type 0} → List (Entry V) → Entry V → Type 0
IsKeptIn es e = (h : ℤ) × (e.hi ≤ℤ h) × Contains es (entry e.lo h e.value)

-- Each entry that starts at a run start of the content is in the new list, with its very value. Its start is the same,
-- and its end is the same or later.
abbrev pub AreStartsKept : {V : Type 0} → (V → V → Bool) → (ℤ → Option V) → List (Entry V) → List (Entry V) → Type 0
AreStartsKept {V} eq content old new = (e : Entry V) → Contains old e → IsRunStart eq content e.lo → IsKeptIn new e

-- The old values that remain when the content becomes the given one. If a run of that content starts with an old entry,
-- the run has the very value of that entry. So joined entries have the stored value of the first. An entry that is a
-- whole run of that content remains unchanged.
pub record AreKept {V : Type 0} (eq : V → V → Bool) (content : ℤ → Option V) (old new : List (Entry V)) : Type 0 where
  pub starts : AreStartsKept eq content old new
  pub whole : (e : Entry V) → Contains old e → IsRunStart eq content e.lo → IsRunEnd eq content e.hi → Contains new e

-- The effect of a fill with an entry on a range map. The content is the filled one: each key of the entry that had no value has
-- that of the entry, and each other key its old one. The old values remain.
pub record IsFilled {V : Type 0} (eq : V → V → Bool) (low high : ℤ) (p : Entry V) (old new : List (Entry V)) : Type 0 where
  pub range_map : IsRangeMap eq low high new
  pub content : (k : ℤ) → SameOption eq (at new k) (filled_content p.lo p.hi p.value (at old) k)
  pub inside : (k : ℤ) → p.lo ≤ℤ k → k ≤ℤ p.hi → at old k ≡ None → SameOption eq (at new k) (Some p.value)
  pub held : (k : ℤ) → IsSome (at old k) → SameOption eq (at new k) (at old k)
  pub outside : (k : ℤ) → (k <ℤ p.lo) ⊎ (p.hi <ℤ k) → SameOption eq (at new k) (at old k)
  pub kept : AreKept eq (filled_content p.lo p.hi p.value (at old)) old new

-- each key from a to b has a value
abbrev pub IsMappedFrom : {V : Type 0} → (ℤ → Option V) → ℤ → ℤ → Type 0
IsMappedFrom content a b = (k : ℤ) → a ≤ℤ k → k ≤ℤ b → IsSome (content k)

-- The keys from a to b are the first gap from l to h. All keys from l to before a have a value, and no key from a to b
-- has one. b is h, or the key after b has a value.
pub record IsFirstGap {V : Type 0} (content : ℤ → Option V) (l h a b : ℤ) : Type 0 where
  pub from : l ≤ℤ a
  pub order : a ≤ℤ b
  pub to : b ≤ℤ h
  pub held : (k : ℤ) → l ≤ℤ k → k <ℤ a → IsSome (content k)
  pub clear : IsClearFrom content a b
  pub greatest : (b ≡ h) ⊎ IsSome (content (b +ℤ pos 1))
