-- The result of an operation between two maps, or a map and a set: at each key, a choice from their two values.
use Rattle.std.specs.Prelude.{◌≡◌, ℤ, Bool, List, Option, Some, None}
use Rattle.std.specs.Option.{option_or, option_and}
use Rattle.blaze_entries.specs.Entries.{Entry, at, SameOption}
use Rattle.blaze_entries.specs.Canonical.{IsRangeMap}

-- the right value if it exists, else the left
abbrev pub right_first : {V : Type 0} → Option V → Option V → Option V
right_first x y = option_or y x

-- the left value, if the right exists too
abbrev pub left_with_right : {A B : Type 0} → Option A → Option B → Option A
left_with_right x y = option_and y x

-- the left value, if the right does not exist
abbrev pub left_alone : {A B : Type 0} → Option A → Option B → Option A
left_alone x None = x
left_alone x (Some y) = None

-- A range map that has at each key the choice from what two lists have at that key: where the right one has no value, and
-- where it has one.
pub record IsChosen {A B V : Type 0} (eq : V → V → Bool) (low high : ℤ) (choose : Option A → Option B → Option V) (left : List (Entry A)) (right : List (Entry B)) (new : List (Entry V)) : Type 0 where
  pub range_map : IsRangeMap eq low high new
  pub content : (k : ℤ) → SameOption eq (at new k) (choose (at left k) (at right k))
  pub right_none : (k : ℤ) → at right k ≡ None → SameOption eq (at new k) (choose (at left k) None)
  pub right_some : (k : ℤ) (v : B) → at right k ≡ Some v → SameOption eq (at new k) (choose (at left k) (Some v))
