-- The keys at which a list of entries has no value, with one value for all of them.
use Rattle.std.specs.Prelude.{ℤ, ◌≤ℤ◌, Bool, List, Option, Some, None}
use Rattle.blaze_entries.specs.Entries.{Entry, at, SameOption}
use Rattle.blaze_entries.specs.Canonical.{IsRangeMap}

-- the value w if the option is `None`, else `None`
abbrev pub value_if_none : {V W : Type 0} → W → Option V → Option W
value_if_none w None = Some w
value_if_none w (Some x) = None

-- a range map that has the value at exactly the keys at which the entries have none
pub record IsComplement {V W : Type 0} (eq : W → W → Bool) (low high : ℤ) (w : W) (entries : List (Entry V)) (new : List (Entry W)) : Type 0 where
  pub range_map : IsRangeMap eq low high new
  pub content : (k : ℤ) → low ≤ℤ k → k ≤ℤ high → SameOption eq (at new k) (value_if_none w (at entries k))
