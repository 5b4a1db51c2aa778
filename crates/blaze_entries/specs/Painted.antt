-- The result of a paint: every key of a range gets a value, replacing the old one.
use Rattle.std.specs.Prelude.{◌≡◌, ℤ, pos, ◌+◌, ◌≤◌, length, ◌+ℤ◌, ◌≤ℤ◌, ◌<ℤ◌, int_le, Bool, true, false, ◌&&◌, if◌then◌else◌, List, [], ◌∷◌, Option, Some, None, ◌⊎◌}
use Rattle.std.specs.List.{Contains}
use Rattle.std.specs.Option.{option_or}
use Rattle.blaze_entries.specs.Entries.{Entry, at, holds, SameOption}
use Rattle.blaze_entries.specs.Canonical.{IsRangeMap}

-- The content after the keys from l to h are painted with v: v at these keys, elsewhere as before. If h is below l,
-- nothing changes.
abbrev pub painted_content : {V : Type 0} → ℤ → ℤ → V → (ℤ → Option V) → ℤ → Option V
painted_content l h v content k = if int_le l k && int_le k h then Some v else content k

-- the entry e ends below the entry f, and the two are not one run: a key is between them, or their values are unequal
pub record IsApartBelow {V : Type 0} (eq : V → V → Bool) (e f : Entry V) : Type 0 where
  pub below : e.hi <ℤ f.lo
  pub unequal : f.lo ≡ e.hi +ℤ pos 1 → eq e.value f.value ≡ false

-- no key of the entry p is in the entry e, and the two are not one run
abbrev pub IsApartFrom : {V : Type 0} → (V → V → Bool) → Entry V → Entry V → Type 0
IsApartFrom eq p e = IsApartBelow eq p e ⊎ IsApartBelow eq e p

-- the keys of the entry p are keys of the entry e, with an equal value
abbrev pub IsAlreadyIn : {V : Type 0} → (V → V → Bool) → Entry V → Entry V → Type 0
IsAlreadyIn eq p e = (e.lo ≤ℤ p.lo) × (p.hi ≤ℤ e.hi) × (eq e.value p.value ≡ true)

-- A paint of the entry p does not affect the entry e. Either p has no key, or it is apart from e, or its keys are
-- already in e.
abbrev pub LeavesAlone : {V : Type 0} → (V → V → Bool) → Entry V → Entry V → Type 0
LeavesAlone eq p e = (p.hi <ℤ p.lo) ⊎ (IsApartFrom eq p e ⊎ IsAlreadyIn eq p e)

-- The effect of painting an entry on a range map. The content is the painted one: each key of the entry has its value, and
-- each other key its old one. The map has at most two entries more, or at most one if it was empty. An entry that the
-- paint does not affect remains, with its very value.
pub record IsPainted {V : Type 0} (eq : V → V → Bool) (low high : ℤ) (p : Entry V) (old new : List (Entry V)) : Type 0 where
  pub range_map : IsRangeMap eq low high new
  pub content : (k : ℤ) → SameOption eq (at new k) (painted_content p.lo p.hi p.value (at old) k)
  pub inside : (k : ℤ) → p.lo ≤ℤ k → k ≤ℤ p.hi → SameOption eq (at new k) (Some p.value)
  pub outside : (k : ℤ) → (k <ℤ p.lo) ⊎ (p.hi <ℤ k) → SameOption eq (at new k) (at old k)
  pub few : length new ≤ length old + 2
  pub alone : old ≡ [] → length new ≤ 1
  pub kept : (e : Entry V) → Contains old e → LeavesAlone eq p e → Contains new e

-- one entry contains all keys from l to h, with a value equal to v
abbrev pub IsInside : {V : Type 0} → (V → V → Bool) → ℤ → ℤ → V → List (Entry V) → Type 0
IsInside eq l h v [] = ⊥
IsInside eq l h v (e ∷ es) = ((e.lo ≤ℤ l) × (h ≤ℤ e.hi) × (eq e.value v ≡ true)) ⊎ IsInside eq l h v es

-- a clone is equal to its source
abbrev pub ClonesAreAlike : {V : Type 0} → (V → V → Type 0) → (V → V → Bool) → Type 0
ClonesAreAlike {V} is_clone eq = (x y : V) → is_clone x y → eq x y ≡ true

-- the value of the last entry whose range contains the key
abbrev pub last_at : {V : Type 0} → List (Entry V) → ℤ → Option V
last_at [] k = None
last_at (p ∷ ps) k = option_or (last_at ps k) (if holds p k then Some p.value else None)

-- the content after the entries are painted in order
abbrev pub painted_in_order : {V : Type 0} → List (Entry V) → (ℤ → Option V) → ℤ → Option V
painted_in_order ps content k = option_or (last_at ps k) (content k)
