-- The keys of a range removed from a map: the map without them, and the map of them.
use Rattle.std.specs.Prelude.{◌≡◌, ◌⊎◌, ℤ, ◌≤ℤ◌, ◌<ℤ◌, Bool, List, [], None}
use Rattle.blaze_entries.specs.Chosen.{left_with_right, IsChosen}
use Rattle.blaze_entries.specs.Cut.{IsRangeCut}
use Rattle.blaze_entries.specs.Entries.{Entry, at, SameOption}
use Rattle.range_map_blaze.specs.OneRange.{one_range}

-- The keys from l up to h are removed from a range map: the new map has the other keys. The returned one has these, each with a
-- value that is equal to the old one, and no others.
pub record AreKeysTaken {V : Type 0} (eq : V → V → Bool) (low high l h : ℤ) (old left taken : List (Entry V)) : Type 0 where
  pub left_is : IsRangeCut eq low high l h old left
  pub taken_is : IsChosen eq low high left_with_right old (one_range l h) taken
  pub inside : (k : ℤ) → l ≤ℤ k → k ≤ℤ h → SameOption eq (at taken k) (at old k)
  pub outside : (k : ℤ) → (k <ℤ l) ⊎ (h <ℤ k) → at taken k ≡ None

-- the keys of some range are removed and returned, or nothing is changed and the returned map is empty
abbrev pub IsTakenOutSomewhere : {V : Type 0} → (V → V → Bool) → ℤ → ℤ → List (Entry V) → List (Entry V) → List (Entry V) → Type 0
IsTakenOutSomewhere eq low high old left taken = ((left ≡ old) × (taken ≡ [])) ⊎ ((l : ℤ) × (h : ℤ) × AreKeysTaken eq low high l h old left taken)
