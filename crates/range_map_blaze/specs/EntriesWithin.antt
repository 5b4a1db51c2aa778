-- The entries of a map cut to the keys of a range, and how many keys of a range have a value.
use Rattle.std.specs.Prelude.{◌≡◌, ◌⊎◌, ℕ, ℤ, ◌≤ℤ◌, ◌<ℤ◌, Bool, List, [], None}
use Rattle.blaze_entries.specs.Canonical.{IsRangeMap}
use Rattle.blaze_entries.specs.Count.{mapped_keys}
use Rattle.blaze_entries.specs.Entries.{Entry, at}

-- The new list is the old one cut to the keys from l up to h. It is a range map. At each key from l up to h it has exactly the
-- value of the old one, or none. At each key below l, and at each key above h, it has none.
pub record IsWithin {V : Type 0} (eq : V → V → Bool) (low high l h : ℤ) (old new : List (Entry V)) : Type 0 where
  pub range_map : IsRangeMap eq low high new
  pub inside : (k : ℤ) → l ≤ℤ k → k ≤ℤ h → at new k ≡ at old k
  pub below : (k : ℤ) → k <ℤ l → at new k ≡ None
  pub above : (k : ℤ) → h <ℤ k → at new k ≡ None

-- the new list is the old one cut to some range of keys, or it has no entry
abbrev pub IsWithinSomewhere : {V : Type 0} → (V → V → Bool) → ℤ → ℤ → List (Entry V) → List (Entry V) → Type 0
IsWithinSomewhere eq low high old new = (new ≡ []) ⊎ ((l : ℤ) × (h : ℤ) × IsWithin eq low high l h old new)

-- the number is how many keys of some range have a value, or 0
abbrev pub IsCountSomewhere : {V : Type 0} → List (Entry V) → ℕ → Type 0
IsCountSomewhere old n = (n ≡ 0) ⊎ ((l : ℤ) × (h : ℤ) × (n ≡ mapped_keys l h (at old)))
