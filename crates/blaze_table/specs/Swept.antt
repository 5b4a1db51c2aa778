-- Lists built from the least key up, in terms of this crate's own functions. No public clause uses them.
use Rattle.std.specs.Prelude.{◌≡◌, ℤ, pos, ◌+ℤ◌, ◌≤ℤ◌, ◌<ℤ◌, Bool, List, [], ◌∷◌, Option, Some, None}
use Rattle.blaze_entries.specs.Entries.{Entry, at, SameOption}
use Rattle.blaze_entries.specs.Canonical.{IsCanonical, AreKeys}
use Rattle.blaze_entries.specs.Splice.{IsBelow}

-- no key from a to below b has a value
abbrev pub IsBare : {V : Type 0} → (ℤ → Option V) → ℤ → ℤ → Type 0
IsBare wanted a b = (k : ℤ) → a ≤ℤ k → k <ℤ b → wanted k ≡ None

-- the list has the right content below the key a, and nothing else
pub record IsSwept {V : Type 0} (eq : V → V → Bool) (low high : ℤ) (wanted : ℤ → Option V) (a : ℤ) (out : List (Entry V)) : Type 0 where
  pub canonical : IsCanonical eq out
  pub keys : AreKeys low high out
  pub below : IsBelow a out
  pub content : (k : ℤ) → k <ℤ a → SameOption eq (at out k) (wanted k)

-- each entry has a key and starts above the end of the previous one; the first one starts at b or above
abbrev pub AreApart : {V : Type 0} → ℤ → List (Entry V) → Type 0
AreApart b [] = Unit {0}
AreApart b (e ∷ es) = (b ≤ℤ e.lo) × (e.lo ≤ℤ e.hi) × AreApart (e.hi +ℤ pos 1) es

-- the key after the last one, or the least key if the option is `None`
abbrev pub key_after : {T : Type 0} → (T → ℤ) → ℤ → Option T → ℤ
key_after rank low None = low
key_after rank low (Some end) = rank end +ℤ pos 1
