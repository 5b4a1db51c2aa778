-- A map whose gaps are filled with the entries of another: each entry, ascending, sets the value of those keys of its range
-- that have none.
use Rattle.std.specs.Option.{option_or}
use Rattle.std.specs.Prelude.{◌≡◌, ℤ, Bool, List, ◌++◌}
use Rattle.blaze_entries.specs.Entries.{Entry, at, SameOption}
use Rattle.blaze_entries.specs.Canonical.{IsRangeMap}
use Rattle.blaze_table.specs.Filled.{AreKept}

-- a range map that has at each key the value of the old one, and where that has none, the value of the first of the entries with
-- the key; the old values are kept
pub record IsFilledFrom {V : Type 0} (eq : V → V → Bool) (low high : ℤ) (entries old new : List (Entry V)) : Type 0 where
  pub range_map : IsRangeMap eq low high new
  pub content : (k : ℤ) → SameOption eq (at new k) (option_or (at old k) (at entries k))
  pub kept : AreKept eq (λ k. option_or (at old k) (at entries k)) old new

-- a first part of the entries, perhaps none of them, fills the gaps
pub record IsPartlyFilledFrom {V : Type 0} (eq : V → V → Bool) (low high : ℤ) (entries old new : List (Entry V)) : Type 0 where
  pub done : List (Entry V)
  pub rest : List (Entry V)
  pub parts : entries ≡ done ++ rest
  pub filled : IsFilledFrom eq low high done old new
