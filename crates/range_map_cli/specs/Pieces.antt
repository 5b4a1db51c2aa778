-- The piece of a content that contains a key: the run of equal values, or the gap.
use Rattle.std.specs.Prelude.{◌≡◌, ℤ, ◌≤ℤ◌, Option}

-- at each key from a up to b the content has the value that it has at k
abbrev pub IsSameFrom : {V : Type 0} → (ℤ → Option V) → ℤ → ℤ → ℤ → Type 0
IsSameFrom content k a b = (j : ℤ) → a ≤ℤ j → j ≤ℤ b → content j ≡ content k

-- from a up to b: the longest interval of keys that contains k and at whose keys the content has the value that it has at k
pub record IsGreatestPiece {V : Type 0} (low high : ℤ) (content : ℤ → Option V) (k a b : ℤ) : Type 0 where
  pub from : low ≤ℤ a
  pub to : b ≤ℤ high
  pub starts : a ≤ℤ k
  pub ends : k ≤ℤ b
  pub same : IsSameFrom content k a b
  pub greatest : (c d : ℤ) → low ≤ℤ c → c ≤ℤ k → k ≤ℤ d → d ≤ℤ high → IsSameFrom content k c d → (a ≤ℤ c) × (d ≤ℤ b)
