-- The laws of joins and of the results of closures.
use Rattle.std.specs.Prelude.{◌≡◌, ℤ, Bool, List, [], ◌∷◌, length, map, Option}
use Rattle.std.specs.Option.{is_some}
use Rattle.blaze_entries.specs.Entries.{Entry, entry, at, SameOption}
use Rattle.blaze_streams.specs.declared.segmenting.joins.JoinKind.TheVariants.{Inner, Left, Full}
use Rattle.blaze_streams.specs.Answers.{entries_with_results}
use Rattle.blaze_streams.specs.Joins.{IsJoinOf}
use Rattle.blaze_streams.specs.Segments.{IsSegmentsOf}

-- a segment of two lists, with their values as a row
abbrev pub as_row : {A : Type 0} → Entry (Option A × Option A) → Entry (List (Option A))
as_row e = entry e.lo e.hi (e.value.0 ∷ e.value.1 ∷ [])

-- one result for each entry, instead of its value, keeps the keys that have a value
abbrev pub AnswersKeepKeys : {W : Type 0} → (V : Type 0) → (W → W → Bool) → Type 0
AnswersKeepKeys {W} V eq = (entries : List (Entry V)) (answers : List W) (new : List (Entry W)) → length answers ≡ length entries → ((k : ℤ) → SameOption eq (at new k) (at (entries_with_results entries answers) k)) → (k : ℤ) → is_some (at new k) ≡ is_some (at entries k)

-- the segments of a left join have the keys of the left list
abbrev pub LeftJoinHasLeftKeys : {A B : Type 0} → (A → A → Bool) → (B → B → Bool) → ℤ → ℤ → Type 0
LeftJoinHasLeftKeys {A} {B} eqa eqb low high = (left : List (Entry A)) (right : List (Entry B)) (segments : List (Entry (Option A × Option B))) → IsJoinOf eqa eqb low high Left left right segments → (k : ℤ) → is_some (at segments k) ≡ is_some (at left k)

-- the segments of a full join of two lists are the segments of the list of the two
abbrev pub FullJoinIsOfListOfTwo : {A : Type 0} → (A → A → Bool) → ℤ → ℤ → Type 0
FullJoinIsOfListOfTwo {A} eq low high = (left right : List (Entry A)) (segments : List (Entry (Option A × Option A))) → IsJoinOf eq eq low high Full left right segments → IsSegmentsOf eq (left ∷ right ∷ []) (map as_row segments)

-- For two lists with the same keys, a full join has the segments of an inner join, with the same values.
abbrev pub FullJoinIsInner : {A B : Type 0} → (A → A → Bool) → (B → B → Bool) → ℤ → ℤ → Type 0
FullJoinIsInner {A} {B} eqa eqb low high = (left : List (Entry A)) (right : List (Entry B)) (full inner : List (Entry (Option A × Option B))) → ((k : ℤ) → is_some (at left k) ≡ is_some (at right k)) → IsJoinOf eqa eqb low high Full left right full → IsJoinOf eqa eqb low high Inner left right inner → full ≡ inner
