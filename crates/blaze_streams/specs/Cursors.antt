-- Cursors over lists. These definitions are for this crate's own functions and for those that it exports only for the
-- crates above it. No clause for users of the streams uses them.
use Rattle.std.specs.Prelude.{◌≡◌, ℤ, pos, ◌-ℤ◌, ◌≤ℤ◌, int_le, Bool, if◌then◌else◌, List, [], ◌∷◌, Option, Some, None}
use Rattle.blaze_entries.specs.Entries.{Entry}
use Rattle.blaze_entries.specs.Canonical.{IsCanonical}
use Rattle.blaze_entries.specs.Splice.{after}
use Rattle.blaze_streams.specs.Segments.{row}

-- the first key of a list
abbrev pub first_key : {A : Type 0} → List (Entry A) → Option ℤ
first_key [] = None
first_key (e ∷ es) = Some e.lo

-- no range starts below s
abbrev pub IsFrom : {A : Type 0} → ℤ → List (Entry A) → Type 0
IsFrom s [] = Unit {0}
IsFrom s (e ∷ es) = s ≤ℤ e.lo

-- the last key up to which the list has the same range as at s, or none, if no range starts below s
abbrev pub steady_to : {A : Type 0} → ℤ → List (Entry A) → Option ℤ
steady_to s [] = None
steady_to s (e ∷ es) = Some (if int_le e.lo s then e.hi else e.lo -ℤ pos 1)

-- the first range ends at t or above
abbrev pub Reaches : {A : Type 0} → ℤ → List (Entry A) → Type 0
Reaches t [] = Unit {0}
Reaches t (e ∷ es) = t ≤ℤ e.hi

-- the first range contains t
abbrev pub FirstHas : {A : Type 0} → ℤ → List (Entry A) → Type 0
FirstHas t [] = ⊥
FirstHas t (e ∷ es) = (e.lo ≤ℤ t) × (t ≤ℤ e.hi)

-- the lesser of two keys, or the only one
abbrev pub lesser : Option ℤ → Option ℤ → Option ℤ
lesser None o = o
lesser (Some a) None = Some a
lesser (Some a) (Some b) = Some (if int_le a b then a else b)

-- s is the first key of two lists
pub record IsFirstOfBoth {A B : Type 0} (left : List (Entry A)) (right : List (Entry B)) (s : ℤ) : Type 0 where
  pub is : lesser (first_key left) (first_key right) ≡ Some s

-- ---- many lists

-- each list is canonical
abbrev pub AllCanonical : {A : Type 0} → (A → A → Bool) → List (List (Entry A)) → Type 0
AllCanonical eq [] = Unit {0}
AllCanonical eq (L ∷ Ls) = IsCanonical eq L × AllCanonical eq Ls

-- the first key of all lists
abbrev pub first_keys : {A : Type 0} → List (List (Entry A)) → Option ℤ
first_keys [] = None
first_keys (L ∷ Ls) = lesser (first_key L) (first_keys Ls)

-- no range of any list starts below s
abbrev pub AllFrom : {A : Type 0} → ℤ → List (List (Entry A)) → Type 0
AllFrom s [] = Unit {0}
AllFrom s (L ∷ Ls) = IsFrom s L × AllFrom s Ls

-- the last key up to which each list has the same range as at s, or none
abbrev pub all_steady_to : {A : Type 0} → ℤ → List (List (Entry A)) → Option ℤ
all_steady_to s [] = None
all_steady_to s (L ∷ Ls) = lesser (steady_to s L) (all_steady_to s Ls)

-- each first range ends at t or above
abbrev pub AllReach : {A : Type 0} → ℤ → List (List (Entry A)) → Type 0
AllReach t [] = Unit {0}
AllReach t (L ∷ Ls) = Reaches t L × AllReach t Ls

-- the part of each list above t
abbrev pub all_after : {A : Type 0} → ℤ → List (List (Entry A)) → List (List (Entry A))
all_after t [] = []
all_after t (L ∷ Ls) = after t L ∷ all_after t Ls

-- the first segment of lists, and the lists after it
pub record IsNextSegment {A : Type 0} (lists : List (List (Entry A))) (segment : Entry (List (Option A))) (rest : List (List (Entry A))) : Type 0 where
  pub starts : first_keys lists ≡ Some segment.lo
  pub ends : all_steady_to segment.lo lists ≡ Some segment.hi
  pub has : segment.value ≡ row lists segment.lo
  pub left : rest ≡ all_after segment.hi lists
