-- The keys above or below a key have no value.
use Rattle.std.specs.Prelude.{◌≡◌, ℤ, ◌<ℤ◌, Option, None}

-- no key above h has a value
abbrev pub IsFreeAbove : {V : Type 0} → (ℤ → Option V) → ℤ → Type 0
IsFreeAbove content h = (j : ℤ) → h <ℤ j → content j ≡ None

-- no key below l has a value
abbrev pub IsFreeBelow : {V : Type 0} → (ℤ → Option V) → ℤ → Type 0
IsFreeBelow content l = (j : ℤ) → j <ℤ l → content j ≡ None
