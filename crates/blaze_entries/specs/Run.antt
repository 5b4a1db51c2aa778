-- A run of a content, in plain words.
use Rattle.std.specs.Prelude.{◌≡◌, ℤ, pos, ◌+ℤ◌, ◌-ℤ◌, ◌≤ℤ◌, Bool, Option, Some}
use Rattle.blaze_entries.specs.Canonical.{IsRunStart, IsRunEnd}

-- The keys from a up to b are one run of the content: each of them has the very value v, and the keys next to them have no value
-- that is equal to it.
pub record IsRun {V : Type 0} (eq : V → V → Bool) (content : ℤ → Option V) (a b : ℤ) (v : V) : Type 0 where
  pub order : a ≤ℤ b
  pub value : (k : ℤ) → a ≤ℤ k → k ≤ℤ b → content k ≡ Some v
  pub starts : IsRunStart eq content a
  pub ends : IsRunEnd eq content b
  pub below : content (a -ℤ pos 1) ≡ Some v → ⊥
  pub above : content (b +ℤ pos 1) ≡ Some v → ⊥
