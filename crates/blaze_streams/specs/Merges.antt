-- Operations between many streams that are made by operations between two. No public clause names these words.
use Rattle.std.specs.Prelude.{ℤ, ◌<◌, List, ◌++◌, length, Option}
use Rattle.blaze_entries.specs.Entries.{Entry, at}
use Rattle.blaze_streams.specs.Segments.{row}

module _ {V : Type 0} (gives : List (Option V) → Option V → Type 0) where
  -- the list has at each key the result for the row of the lists' values there
  abbrev pub GivesEach : List (List (Entry V)) → List (Entry V) → Type 0
  GivesEach lists list = (k : ℤ) → gives (row lists k) (at list k)

  -- if each of two lists has the result for a part of a row, the new list has the result for the whole row
  abbrev pub GivesBoth : List (Entry V) → List (Entry V) → List (Entry V) → Type 0
  GivesBoth left right new = (k : ℤ) (xs ys : List (Option V)) → 0 < length xs → 0 < length ys → gives xs (at left k) → gives ys (at right k) → gives (xs ++ ys) (at new k)
