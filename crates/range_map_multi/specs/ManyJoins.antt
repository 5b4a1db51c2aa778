-- The results of a closure at the segments of many lists: the longest ranges on which none of them changes.
use Rattle.std.specs.Prelude.{◌≡◌, ℤ, ◌≤ℤ◌, Bool, if◌then◌else◌, List, map, Option, Some, None}
use Rattle.std.specs.Fn.{Mut}
use Rattle.blaze_entries.specs.Entries.{Entry, at}
use Rattle.blaze_entries.specs.Canonical.{IsRangeMap}
use Rattle.blaze_streams.specs.Answers.{values, IsCallableAtEachValue, IsTransformed}
use Rattle.blaze_streams.specs.Carried.{shown_option}
use Rattle.blaze_streams.specs.Segments.{row, row_eq}

-- the row of the values that options of items stand for
abbrev pub shown_row : {C V : Type 0} → (C → V) → List (Option C) → List (Option V)
shown_row shown items = map (shown_option shown) items

-- the row of the values that items stand for
abbrev pub shown_full_row : {C V : Type 0} → (C → V) → List C → List (Option V)
shown_full_row shown items = map (λ c. Some (shown c)) items

-- a row, if the join calls its closure at it
abbrev pub asked_row : {A : Type 0} → (List (Option A) → Bool) → List (Option A) → Option (List (Option A))
asked_row asks r = if asks r then Some r else None

-- the segments of lists at which a join calls its closure: at each key they have the row of the lists' values there, if the join
-- calls it there, and they are one per run of that. An inner join calls it at the rows in which all lists have a value, a full
-- join at those in which one has
pub record IsJoinOfMany {A : Type 0} (eq : A → A → Bool) (low high : ℤ) (asks : List (Option A) → Bool) (lists : List (List (Entry A))) (segments : List (Entry (List (Option A)))) : Type 0 where
  pub range_map : IsRangeMap (row_eq eq) low high segments
  pub content : (k : ℤ) → low ≤ℤ k → k ≤ℤ high → at segments k ≡ asked_row asks (row lists k)

-- `shows` gives the row of the lists' values that the arguments of a call stand for
module _ {F X W A : Type 0} (shows : X → List (Option A)) (g : Mut F X W) (eqv : A → A → Bool) (low high : ℤ) (asks : List (Option A) → Bool) where
  -- f may be called at each of these segments in turn, in the state after the calls at those before
  pub record IsCallableAtRows (f : F) (lists : List (List (Entry A))) : Type 0 where
    pub at : (segments : List (Entry (List (Option A)))) → IsJoinOfMany eqv low high asks lists segments → IsCallableAtEachValue shows g f (values segments)

  -- a range map that has at each key of these segments the result of f there, and nothing at all other
  -- keys: one call for each of these segments, in order
  pub record IsManyJoined (eq : W → W → Bool) (f : F) (lists : List (List (Entry A))) (new : List (Entry W)) : Type 0 where
    pub segments : List (Entry (List (Option A)))
    pub are_segments : IsJoinOfMany eqv low high asks lists segments
    pub answered : IsTransformed shows g eq low high f segments new
