-- The segments of lists of ranges. A segment is a greatest range of keys at which each list has the same range or none,
-- and at least one has a range.
use Rattle.std.specs.Prelude.{◌≡◌, ℕ, ◌+◌, ℤ, Bool, if◌then◌else◌, List, [], ◌∷◌, map, Option, Some, None}
use Rattle.std.specs.Option.{option_eq, is_some}
use Rattle.std.specs.List.{list_any}
use Rattle.std.specs.Cmp.Lexicographic.{pointwise}
use Rattle.std.specs.Global.{Vec}
use Rattle.blaze_entries.specs.Entries.{Entry, entry, at}
use Rattle.blaze_entries.specs.Canonical.{IsDisjoint, IsAscending, IsOnePerRun}
use Rattle.blaze_streams.specs.declared.segmenting.list_segments.Segment.{Segment}

-- the ranges of a list as entries, each with its position as its value; the first has the position i
abbrev pub numbered : {T : Type 0} → (T → ℤ) → ℕ → List (T × T) → List (Entry ℕ)
numbered rank i [] = []
numbered rank i (r ∷ rs) = entry (rank r.0) (rank r.1) i ∷ numbered rank (i + 1) rs

-- the ranges of each list as entries, each with its position as its value
abbrev pub all_numbered : {T : Type 0} → (T → ℤ) → List (Vec (T × T)) → List (List (Entry ℕ))
all_numbered rank [] = []
all_numbered rank (v ∷ vs) = numbered rank 0 v.items ∷ all_numbered rank vs

-- each list is disjoint and ascending
abbrev pub AreInOrder : {A : Type 0} → List (List (Entry A)) → Type 0
AreInOrder [] = Unit {0}
AreInOrder (L ∷ Ls) = IsDisjoint L × IsAscending L × AreInOrder Ls

-- the value of each list at a key
abbrev pub row : {A : Type 0} → List (List (Entry A)) → ℤ → List (Option A)
row [] k = []
row (L ∷ Ls) k = at L k ∷ row Ls k

-- the row, if at least one list has a value
abbrev pub row_if_any : {A : Type 0} → List (Option A) → Option (List (Option A))
row_if_any r = if list_any is_some r then Some r else None

-- two rows are equal: position by position both lists have no value, or equal values
abbrev pub row_eq : {A : Type 0} → (A → A → Bool) → List (Option A) → List (Option A) → Bool
row_eq eq = pointwise (option_eq eq)

-- a segment as an entry, with its row as its value
abbrev pub shown_segment : {T : Type 0} → (T → ℤ) → Segment T → Entry (List (Option ℕ))
shown_segment rank s = record { lo = rank s.lo; hi = rank s.hi; value = s.at.items }

abbrev pub shown_segments : {T : Type 0} → (T → ℤ) → List (Segment T) → List (Entry (List (Option ℕ)))
shown_segments rank segments = map (shown_segment rank) segments

-- The segments of lists. At each key at which a list has a value, they have the row of the lists. Each segment is one
-- run of rows.
pub record IsSegmentsOf {A : Type 0} (eq : A → A → Bool) (lists : List (List (Entry A))) (segments : List (Entry (List (Option A)))) : Type 0 where
  pub runs : IsOnePerRun (row_eq eq) segments
  pub content : (k : ℤ) → at segments k ≡ row_if_any (row lists k)
