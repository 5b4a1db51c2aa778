-- The keys that the two bounds of a range name, given by their ranks.
use Rattle.std.specs.Prelude.{◌≡◌, ◌↔◌, pos, ◌+ℤ◌, ◌-ℤ◌, ◌≤ℤ◌, ◌<ℤ◌, ℤ, Option, Some, None, MatchOption}
use Rattle.std.specs.declared.ops.Bound.{Bound}
use Rattle.std.specs.declared.ops.Bound.TheVariants.{Included, Excluded, Unbounded}

module _ {K : Type 0} (rank : K → ℤ) where
  -- the rank is not before the start
  abbrev pub IsFromStart : Bound K → ℤ → Type 0
  IsFromStart (Included a) z = rank a ≤ℤ z
  IsFromStart (Excluded a) z = rank a <ℤ z
  IsFromStart Unbounded z = Unit {0}

  -- the rank is not past the end
  abbrev pub IsUpToEnd : Bound K → ℤ → Type 0
  IsUpToEnd (Included b) z = z ≤ℤ rank b
  IsUpToEnd (Excluded b) z = z <ℤ rank b
  IsUpToEnd Unbounded z = Unit {0}

  -- the least rank that a start allows, where `low` is the rank of the least key
  abbrev pub start_rank : ℤ → Bound K → ℤ
  start_rank low (Included a) = rank a
  start_rank low (Excluded a) = rank a +ℤ pos 1
  start_rank low Unbounded = low

  -- the greatest rank that an end allows, where `high` is the rank of the greatest key
  abbrev pub end_rank : ℤ → Bound K → ℤ
  end_rank high (Included b) = rank b
  end_rank high (Excluded b) = rank b -ℤ pos 1
  end_rank high Unbounded = high

  module _ (low high : ℤ) where
    -- the bounds name the key of a rank
    abbrev pub IsNamed : Bound K → Bound K → ℤ → Type 0
    IsNamed start end z = (low ≤ℤ z) × (z ≤ℤ high) × IsFromStart start z × IsUpToEnd end z

    -- The result is the least and the greatest key that the bounds name. The bounds name exactly the keys from the one
    -- to the other. The result is `None` if they name no key.
    abbrev pub AreEndsOf : Bound K → Bound K → Option (K × K) → Type 0
    AreEndsOf start end None = (z : ℤ) → ¬ IsNamed start end z
    AreEndsOf start end (Some p) = (rank p.0 ≤ℤ rank p.1)
        × ((z : ℤ) → IsNamed start end z ↔ ((rank p.0 ≤ℤ z) × (z ≤ℤ rank p.1)))

    -- The two keys have the least and the greatest rank that the bounds allow. The result is `None` if the greatest
    -- such rank is below the least.
    abbrev pub AreAtRanks : Bound K → Bound K → Option (K × K) → Type 0
    AreAtRanks start end ends = MatchOption ends (end_rank high end <ℤ start_rank low start)
        (λ p. (rank p.0 ≡ start_rank low start) × (rank p.1 ≡ end_rank high end))
