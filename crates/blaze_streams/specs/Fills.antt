-- A value at every key: `Some` of the value that a list of entries has, and `None` where it has none.
use Rattle.std.specs.Prelude.{◌≡◌, ℤ, pos, ◌+ℤ◌, ◌≤ℤ◌, Bool, List, [], ◌∷◌, ◌++◌, map, Option, Some, None}
use Rattle.std.specs.Option.{option_eq}
use Rattle.blaze_entries.specs.Entries.{Entry, entry, at}
use Rattle.blaze_entries.specs.Canonical.{IsRangeMap}
use Rattle.blaze_streams.specs.Gaps.{gap_before}

-- a range map whose value at each key is `Some` of the entries' value, or `None` if they have none
pub record IsFilledWithNone {V : Type 0} (eq : V → V → Bool) (low high : ℤ) (entries : List (Entry V)) (new : List (Entry (Option V))) : Type 0 where
  pub range_map : IsRangeMap (option_eq eq) low high new
  pub content : (k : ℤ) → low ≤ℤ k → k ≤ℤ high → at new k ≡ Some (at entries k)

-- ---- by structure

-- a range with the value `None`
abbrev pub with_none : {V : Type 0} → Entry (Unit {0}) → Entry (Option V)
with_none e = entry e.lo e.hi None

-- the keys from n to before l, as one range with the value `None`, or nothing if no keys are between
abbrev pub none_before : {V : Type 0} → ℤ → ℤ → List (Entry (Option V))
none_before n l = map with_none (gap_before n l)

-- the keys from n to high: the entries, and the value `None` between them
abbrev pub filled_entries : {V : Type 0} → ℤ → ℤ → List (Entry V) → List (Entry (Option V))
filled_entries n high [] = none_before n (high +ℤ pos 1)
filled_entries n high (e ∷ es) = none_before n e.lo ++ entry e.lo e.hi (Some e.value) ∷ filled_entries (e.hi +ℤ pos 1) high es
