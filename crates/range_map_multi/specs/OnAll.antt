-- The keys of a list that all of some lists have too: words of this crate's own functions, which no public clause names.
use Rattle.std.specs.Prelude.{ℤ, Bool, if◌then◌else◌, List, Option, None}
use Rattle.std.specs.Option.{is_some}
use Rattle.std.specs.List.{list_all}
use Rattle.blaze_entries.specs.Entries.{Entry, at, SameOption}
use Rattle.blaze_streams.specs.Segments.{row}

-- a value, if each of a row is present
abbrev pub with_all : {V : Type 0} → Option V → List (Option V) → Option V
with_all x xs = if list_all is_some xs then x else None

-- the keys of a list that all lists have too, with its own values
abbrev pub IsOnAll : {V : Type 0} → (V → V → Bool) → List (Entry V) → List (List (Entry V)) → List (Entry V) → Type 0
IsOnAll eq list lists new = (k : ℤ) → SameOption eq (at new k) (with_all (at list k) (row lists k))
