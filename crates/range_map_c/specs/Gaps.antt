-- Free ranges of a content: keys in a row of which none has a value.
use Rattle.std.specs.Prelude.{ℕ, ℤ, pos, ◌+ℤ◌, ◌-ℤ◌, ◌≤ℤ◌, ◌<◌, Option, IsSome}
use Rattle.blaze_table.specs.Gap.{IsClearFrom}

-- a key from a to b has a value
abbrev pub HasKeyFrom : {V : Type 0} → (ℤ → Option V) → ℤ → ℤ → Type 0
HasKeyFrom content a b = (k : ℤ) × (a ≤ℤ k) × (k ≤ℤ b) × IsSome (content k)

-- the n keys from `first` on lie from a to b, and none of them has a value; n is above 0
pub record IsFreeRange {V : Type 0} (content : ℤ → Option V) (a b : ℤ) (n : ℕ) (first : ℤ) : Type 0 where
  pub some : 0 < n
  pub from : a ≤ℤ first
  pub to : (first +ℤ pos n) ≤ℤ (b +ℤ pos 1)
  pub clear : IsClearFrom content first ((first +ℤ pos n) -ℤ pos 1)

-- there are no such n keys
abbrev pub HasNoFreeRange : {V : Type 0} → (ℤ → Option V) → ℤ → ℤ → ℕ → Type 0
HasNoFreeRange content a b n = (k : ℤ) → IsFreeRange content a b n k → ⊥

-- the least key from which n keys are free
pub record IsFirstFreeRange {V : Type 0} (content : ℤ → Option V) (a b : ℤ) (n : ℕ) (first : ℤ) : Type 0 where
  pub free : IsFreeRange content a b n first
  pub least : (k : ℤ) → IsFreeRange content a b n k → first ≤ℤ k

-- the greatest key from which n keys are free
pub record IsLastFreeRange {V : Type 0} (content : ℤ → Option V) (a b : ℤ) (n : ℕ) (first : ℤ) : Type 0 where
  pub free : IsFreeRange content a b n first
  pub greatest : (k : ℤ) → IsFreeRange content a b n k → k ≤ℤ first
