-- The results of operations between any number of maps: at each key a choice from the row of the maps' values there, first to
-- last.
use Rattle.std.specs.Prelude.{ℤ, Bool, false, not, if◌then◌else◌, List, [], ◌∷◌, Option, Some, None}
use Rattle.std.specs.Option.{is_some}
use Rattle.std.specs.List.{list_all}
use Rattle.blaze_entries.specs.Entries.{Entry, at, SameOption}
use Rattle.blaze_entries.specs.Canonical.{IsRangeMap}
use Rattle.blaze_entries.specs.Chosen.{right_first}
use Rattle.blaze_streams.specs.Segments.{row}

-- the value of the last that has one
abbrev pub last_value : {V : Type 0} → List (Option V) → Option V
last_value [] = None
last_value (x ∷ xs) = right_first x (last_value xs)

-- the value of the last, where all have one
abbrev pub last_of_all : {V : Type 0} → List (Option V) → Option V
last_of_all xs = if list_all is_some xs then last_value xs else None

-- whether an odd number have a value
abbrev pub has_odd : {V : Type 0} → List (Option V) → Bool
has_odd [] = false
has_odd (None ∷ xs) = has_odd xs
has_odd (Some x ∷ xs) = not (has_odd xs)

-- the value of the last that has one, where an odd number have one
abbrev pub last_of_odd : {V : Type 0} → List (Option V) → Option V
last_of_odd xs = if has_odd xs then last_value xs else None

-- a range map that has at each key the choice from the row of the lists' values there
pub record IsChosenOfMany {V : Type 0} (eq : V → V → Bool) (low high : ℤ) (choose : List (Option V) → Option V) (lists : List (List (Entry V))) (new : List (Entry V)) : Type 0 where
  pub range_map : IsRangeMap eq low high new
  pub content : (k : ℤ) → SameOption eq (at new k) (choose (row lists k))
