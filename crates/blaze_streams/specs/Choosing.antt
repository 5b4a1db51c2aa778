-- A merge of two streams before its end. These definitions are for this crate's own functions and for those that it
-- exports only for the crates above it. No clause for users of the streams uses them.
use Rattle.std.specs.Prelude.{◌≡◌, ℤ, ◌≤ℤ◌, ◌<ℤ◌, Bool, List, [], ◌∷◌, Option, Some, None}
use Rattle.blaze_entries.specs.declared.range_entry.RangeEntry.{RangeEntry}
use Rattle.blaze_entries.specs.Entries.{Entry, entry, at, shown_range_entry, SameOption}
use Rattle.blaze_entries.specs.Splice.{glue, after}
use Rattle.blaze_streams.specs.Cursors.{first_key, lesser}

-- a stream's first range, if it was taken, followed by the remaining stream
abbrev pub ahead_of : {T C V : Type 0} → (T → ℤ) → (C → V) → Option (RangeEntry T C) → List (Entry V) → List (Entry V)
ahead_of rank shown None rest = rest
ahead_of rank shown (Some e) rest = shown_range_entry rank shown e ∷ rest

-- The first piece of two lists. The choice has no value from their first key to before `first`. From `first` to `end`
-- it has one value at each key, equal to the given value. The new lists are the parts above `end`.
pub record IsTaken {A B V : Type 0} (eq : V → V → Bool) (choose : Option A → Option B → Option V) (left left_new : List (Entry A)) (right right_new : List (Entry B)) (first end : ℤ) (value : Option V) : Type 0 where
  pub start : ℤ
  pub starts : lesser (first_key left) (first_key right) ≡ Some start
  pub from : start ≤ℤ first
  pub order : first ≤ℤ end
  pub none : (k : ℤ) → start ≤ℤ k → k <ℤ first → choose (at left k) (at right k) ≡ None
  pub same : (k : ℤ) → first ≤ℤ k → k ≤ℤ end → choose (at left k) (at right k) ≡ choose (at left first) (at right first)
  pub alike : SameOption eq (choose (at left first) (at right first)) value
  pub left_is : left_new ≡ after end left
  pub right_is : right_new ≡ after end right

-- The first piece of one of two lists, from its first key to `end`. The list has one value there, equal to the given
-- value, and the other list has none. The new list is the part above `end`.
pub record IsTakenAlone {A B : Type 0} (eq : A → A → Bool) (list new : List (Entry A)) (other : List (Entry B)) (first end : ℤ) (value : Option A) : Type 0 where
  pub starts : lesser (first_key list) (first_key other) ≡ Some first
  pub order : first ≤ℤ end
  pub same : (k : ℤ) → first ≤ℤ k → k ≤ℤ end → at list k ≡ at list first
  pub alike : SameOption eq (at list first) value
  pub alone : (k : ℤ) → k ≤ℤ end → at other k ≡ None
  pub list_is : new ≡ after end list
  pub other_is : other ≡ after end other

-- the list with a value appended for the keys from s to t, if a value exists
abbrev pub PutsValue : {V : Type 0} → (V → V → Bool) → ℤ → ℤ → Option V → List (Entry V) → List (Entry V) → Type 0
PutsValue eq s t None old new = new ≡ old
PutsValue eq s t (Some v) old new = new ≡ glue eq old (entry s t v ∷ [])

-- the list with an equal value appended for the keys from s to t, if a value exists
pub record PutsAlike {V : Type 0} (eq : V → V → Bool) (s t : ℤ) (value : Option V) (old new : List (Entry V)) : Type 0 where
  pub alike : Option V
  pub same : SameOption eq value alike
  pub put : PutsValue eq s t alike old new
