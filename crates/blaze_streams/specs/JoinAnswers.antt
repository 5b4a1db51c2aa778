-- The results of a closure at the segments of two lists.
use Rattle.std.specs.Prelude.{ℤ, Bool, List, Option, Some}
use Rattle.std.specs.Fn.{Mut}
use Rattle.blaze_entries.specs.Entries.{Entry}
use Rattle.blaze_streams.specs.declared.segmenting.joins.JoinKind.{JoinKind}
use Rattle.blaze_streams.specs.Carried.{shown_option}
use Rattle.blaze_streams.specs.Answers.{values, IsCallableAtEachValue, IsTransformed}
use Rattle.blaze_streams.specs.Joins.{IsJoinOf}

-- the values of two lists that the two arguments of a call represent
abbrev pub either : {C D A B : Type 0} → (C → A) → (D → B) → Option C × (Option D × Unit {0}) → Option A × Option B
either left right a = (shown_option left a.0, shown_option right a.1.0)

-- the values of two lists that the two arguments of a call represent, if the left list has a value
abbrev pub left_or_both : {C D A B : Type 0} → (C → A) → (D → B) → C × (Option D × Unit {0}) → Option A × Option B
left_or_both left right a = (Some (left a.0), shown_option right a.1.0)

-- the values of two lists that the two arguments of a call represent, if both lists have a value
abbrev pub both : {C D A B : Type 0} → (C → A) → (D → B) → C × (D × Unit {0}) → Option A × Option B
both left right a = (Some (left a.0), Some (right a.1.0))

-- `shows` is the values of two lists that the arguments of a call represent
module _ {F X W A B : Type 0} (shows : X → Option A × Option B) (g : Mut F X W) (eqa : A → A → Bool) (eqb : B → B → Bool) (low high : ℤ) (kind : JoinKind) where
  -- f may be called at each segment that the join selects in turn, in the state that the earlier calls leave
  pub record IsCallableAtSegments (f : F) (left : List (Entry A)) (right : List (Entry B)) : Type 0 where
    pub at : (segments : List (Entry (Option A × Option B))) → IsJoinOf eqa eqb low high kind left right segments → IsCallableAtEachValue shows g f (values segments)

  -- A range map that has at each key of a selected segment the result of f at the segment, and no value at other keys.
  -- f is called once for each selected segment, in order.
  pub record IsJoined (eq : W → W → Bool) (f : F) (left : List (Entry A)) (right : List (Entry B)) (new : List (Entry W)) : Type 0 where
    pub segments : List (Entry (Option A × Option B))
    pub are_segments : IsJoinOf eqa eqb low high kind left right segments
    pub answered : IsTransformed shows g eq low high f segments new
