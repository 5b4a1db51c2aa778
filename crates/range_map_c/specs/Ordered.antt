-- Tables whose rows are in order, and the position of a key among the first or last keys.
use Rattle.std.specs.Prelude.{◌≡◌, ℕ, ℤ, pos, ◌≤ℤ◌, ◌<ℤ◌, ◌≤◌, ◌<◌, List, [], ◌∷◌, length, slice_index_or}
use Rattle.blaze_entries.specs.Entries.{Entry}

-- no range is empty, and each starts above the end of the one before
abbrev pub AreOrdered : {V : Type 0} → List (Entry V) → Type 0
AreOrdered [] = Unit {0}
AreOrdered (e ∷ []) = e.lo ≤ℤ e.hi
AreOrdered (e ∷ f ∷ fs) = (e.lo ≤ℤ e.hi) × (e.hi <ℤ f.lo) × AreOrdered (f ∷ fs)

-- first keys and last keys whose rows are in order: row i is not empty, and ends below the start of a later row j
pub record AreApart (los his : List ℤ) : Type 0 where
  pub long : length his ≡ length los
  pub full : (i : ℕ) → i < length los → slice_index_or los i (pos 0) ≤ℤ slice_index_or his i (pos 0)
  pub apart : (i j : ℕ) → i < j → j < length los → slice_index_or his i (pos 0) <ℤ slice_index_or los j (pos 0)

-- n is how many keys are at most k: those before n are, and no other is
pub record IsRank (keys : List ℤ) (k : ℤ) (n : ℕ) : Type 0 where
  pub within : n ≤ length keys
  pub before : (i : ℕ) → i < n → slice_index_or keys i (pos 0) ≤ℤ k
  pub after : (i : ℕ) → n ≤ i → i < length keys → k <ℤ slice_index_or keys i (pos 0)

-- n is how many last keys are below k: those before n are, and no other is
pub record IsRankBelow (keys : List ℤ) (k : ℤ) (n : ℕ) : Type 0 where
  pub within : n ≤ length keys
  pub before : (i : ℕ) → i < n → slice_index_or keys i (pos 0) <ℤ k
  pub after : (i : ℕ) → n ≤ i → i < length keys → k ≤ℤ slice_index_or keys i (pos 0)

-- no key is above a later one
abbrev pub IsSorted : List ℤ → Type 0
IsSorted keys = (i j : ℕ) → i ≤ j → j < length keys → slice_index_or keys i (pos 0) ≤ℤ slice_index_or keys j (pos 0)
