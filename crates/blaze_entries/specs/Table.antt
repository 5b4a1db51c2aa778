-- The invariant of a range table.
use Rattle.std.specs.Prelude.{◌≡◌, ℕ, ℤ, pos, Bool, List}
use Rattle.blaze_entries.specs.Entries.{Entry}
use Rattle.blaze_entries.specs.Canonical.{IsCanonical, AreKeys}
use Rattle.blaze_entries.specs.Count.{keys_in}

-- the list of a table, with its number of keys
pub record IsTable {V : Type 0} (eq : V → V → Bool) (low high : ℤ) (len : ℕ) (es : List (Entry V)) : Type 0 where
  pub canonical : IsCanonical eq es
  pub are_keys : AreKeys low high es
  pub counted : pos len ≡ keys_in es
