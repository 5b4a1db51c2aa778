-- Suffixes of lists.
use Rattle.std.specs.Prelude.{◌≡◌, ℤ, List, ◌++◌}
use Rattle.blaze_entries.specs.Entries.{Entry}
use Rattle.blaze_entries.specs.Splice.{IsBelow}

-- `rest` is a suffix of the list
pub record IsLastPart {A : Type 0} (list rest : List A) : Type 0 where
  pub gone : List A
  pub parts : list ≡ gone ++ rest

-- the stream after a seek to the key k: some ranges that end below k are skipped, and the others are unchanged
pub record IsSought {V : Type 0} (k : ℤ) (old new : List (Entry V)) : Type 0 where
  pub gone : List (Entry V)
  pub parts : old ≡ gone ++ new
  pub below : IsBelow k gone
