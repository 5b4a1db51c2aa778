-- Tables: first keys, last keys and values, each in a list of its own.
use Rattle.std.specs.Prelude.{◌≡◌, ℕ, ℤ, List, [], ◌∷◌, ◌++◌}
use Rattle.std.specs.Prelude.{nat_eq}
use Rattle.blaze_entries.specs.Entries.{Entry, entry, at, SameOption}
use Rattle.blaze_entries.specs.Canonical.{IsRangeMap}
use Rattle.blaze_entries.specs.Painted.{painted_in_order}

-- the rows of a table, as entries
abbrev pub rows : {V : Type 0} → List ℤ → List ℤ → List V → List (Entry V)
rows [] his vs = []
rows (lo ∷ los) [] vs = []
rows (lo ∷ los) (hi ∷ his) [] = []
rows (lo ∷ los) (hi ∷ his) (v ∷ vs) = entry lo hi v ∷ rows los his vs

-- a range map on which the rows of a table are painted, in order
pub record AreRowsPainted (low high : ℤ) (table old new : List (Entry ℕ)) : Type 0 where
  pub range_map : IsRangeMap nat_eq low high new
  pub content : (k : ℤ) → SameOption nat_eq (at new k) (painted_in_order table (at old) k)

-- a first part of the rows, perhaps none of them, is painted in order
pub record IsPartPainted (low high : ℤ) (table old new : List (Entry ℕ)) : Type 0 where
  pub done : List (Entry ℕ)
  pub left : List (Entry ℕ)
  pub parts : table ≡ done ++ left
  pub painted : AreRowsPainted low high done old new
