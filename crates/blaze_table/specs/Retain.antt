-- What a closure returns for the entries or the pairs of a list, and which of them remain.
use Rattle.std.specs.Prelude.{◌≡◌, ℤ, Bool, List}
use Rattle.std.specs.Borrow.{Bor}
use Rattle.std.specs.Fn.{Shared, FnReturns}
use Rattle.std.specs.List.{All}
use Rattle.std.specs.List.Retain.{IsFiltered}
pub use Rattle.blaze_entries.specs.Answers.{AnswersAt, IsCallableAtEach}
use Rattle.blaze_entries.specs.Entries.{Entry, at, SameOption}
use Rattle.blaze_entries.specs.Canonical.{IsRangeMap}
use Rattle.blaze_entries.specs.Pairs.{pair_list, value_at}

-- a call of f with the key and the value of a pair may return r; f does not change
pub record AnswersAtPair {F T V : Type 0} (g : Shared F (Bor T × (Bor V × Unit {0})) Bool) (f : F) (p : T × V) (r : Bool) (f' : F) : Type 0 where
  pub key : Bor T
  pub value : Bor V
  pub asked : key.now ≡ p.0
  pub stored : value.now ≡ p.1
  pub says : FnReturns g f (key, (value, tt)) r
  pub same : f' ≡ f

-- f may be called with the key and the value of a pair
abbrev pub TakesPair : {F T V : Type 0} → Shared F (Bor T × (Bor V × Unit {0})) Bool → F → T × V → Type 0
TakesPair {F} {T} {V} g f p = (key : Bor T) (value : Bor V) → key.now ≡ p.0 → value.now ≡ p.1 → g.pre f (key, (value, tt))

-- f may be called with each pair of the pair list
abbrev pub IsCallableAtPairs : {F T V : Type 0} → Shared F (Bor T × (Bor V × Unit {0})) Bool → F → (ℤ → T) → List (Entry V) → Type 0
IsCallableAtPairs g f of_rank entries = All (TakesPair g f) (pair_list of_rank entries)

-- The effect of keeping the keys for which a closure returns true. The closure is called once for each pair of the pair
-- list, in order. The new content is that of the pairs for which it returns true.
pub record IsKeyRetained {F T V : Type 0} (g : Shared F (Bor T × (Bor V × Unit {0})) Bool) (f : F) (rank : T → ℤ) (of_rank : ℤ → T) (eq : V → V → Bool) (low high : ℤ) (old new : List (Entry V)) : Type 0 where
  pub kept : List (T × V)
  pub filtered : IsFiltered (AnswersAtPair g) f (pair_list of_rank old) kept
  pub range_map : IsRangeMap eq low high new
  pub content : (k : ℤ) → SameOption eq (at new k) (value_at rank kept k)
