-- A union: the right map over the left.
use Rattle.std.specs.Prelude.{ℤ, ◌+◌, ◌*◌, ◌≤◌, length, Bool, List}
use Rattle.blaze_entries.specs.Entries.{Entry}
use Rattle.blaze_entries.specs.Chosen.{right_first, IsChosen}

-- a range map that has the value of the right list where it has one, and otherwise that of the left; each entry of the right list
-- adds two entries at most
pub record IsUnion {V : Type 0} (eq : V → V → Bool) (low high : ℤ) (left right new : List (Entry V)) : Type 0 where
  pub chosen : IsChosen eq low high right_first left right new
  pub few : length new ≤ length left + 2 * length right
