-- The segments of two lists, and those that a join selects. A segment is a greatest range of keys at which each list
-- has the same range or none, and at least one has a range.
use Rattle.std.specs.Prelude.{◌≡◌, ℤ, ◌≤ℤ◌, Bool, true, false, ◌&&◌, ◌||◌, if◌then◌else◌, List, [], ◌∷◌, ◌++◌, Option, Some, None, MatchOption}
use Rattle.std.specs.Option.{option_eq, is_some}
use Rattle.blaze_entries.specs.Cloned.{AreCloned}
use Rattle.blaze_entries.specs.Entries.{Entry, entry, at}
use Rattle.blaze_entries.specs.Canonical.{IsRangeMap}
use Rattle.blaze_entries.specs.Splice.{after}
use Rattle.blaze_streams.specs.declared.segmenting.joins.JoinKind.{JoinKind}
use Rattle.blaze_streams.specs.declared.segmenting.joins.JoinKind.TheVariants.{Inner, Left, Full}
use Rattle.blaze_streams.specs.Carried.{AreOptions, ArePairsCarried}
use Rattle.blaze_streams.specs.Cursors.{steady_to, lesser}

-- whether a join of the kind selects a key at which two lists have these values
abbrev pub is_joined : {A B : Type 0} → JoinKind → Option A → Option B → Bool
is_joined Inner x y = is_some x && is_some y
is_joined Left x y = is_some x
is_joined Full x y = is_some x || is_some y

-- the values of two lists at a key, if a join of the kind selects it
abbrev pub paired : {A B : Type 0} → JoinKind → Option A → Option B → Option (Option A × Option B)
paired kind x y = if is_joined kind x y then Some (x, y) else None

-- two lists have equal values at two keys
abbrev pub pair_eq : {A B : Type 0} → (A → A → Bool) → (B → B → Bool) → Option A × Option B → Option A × Option B → Bool
pair_eq eqa eqb p q = option_eq eqa p.0 q.0 && option_eq eqb p.1 q.1

-- The segments of two lists that a join of the kind selects. At each selected key they have the values of the two
-- lists, and each segment is one run of these values.
pub record IsJoinOf {A B : Type 0} (eqa : A → A → Bool) (eqb : B → B → Bool) (low high : ℤ) (kind : JoinKind) (left : List (Entry A)) (right : List (Entry B)) (segments : List (Entry (Option A × Option B))) : Type 0 where
  pub range_map : IsRangeMap (pair_eq eqa eqb) low high segments
  pub content : (k : ℤ) → at segments k ≡ paired kind (at left k) (at right k)

-- The segments with carried values. The last segment of a range has the segment's value. Each other one may have a
-- value that `carry` may represent for it.
pub record IsCarriedJoin {A B : Type 0} (carrieda : A → A → Type 0) (carriedb : B → B → Type 0) (eqa : A → A → Bool) (eqb : B → B → Bool) (low high : ℤ) (kind : JoinKind) (left : List (Entry A)) (right : List (Entry B)) (segments : List (Entry (Option A × Option B))) : Type 0 where
  pub exact : List (Entry (Option A × Option B))
  pub is_join : IsJoinOf eqa eqb low high kind left right exact
  pub carried : AreCloned (ArePairsCarried carrieda carriedb) exact segments

-- ---- one part of a walk over two lists

-- a value at the keys from s to t, if it exists
abbrev pub piece_of : {V : Type 0} → ℤ → ℤ → Option V → List (Entry V)
piece_of s t None = []
piece_of s t (Some v) = entry s t v ∷ []

-- The new list is the part of the list above `end`. The other list has no value up to `end`, which is at least s.
pub record IsLetGo {A B : Type 0} (s high : ℤ) (list new : List (Entry A)) (other : List (Entry B)) : Type 0 where
  pub end : ℤ
  pub from : s ≤ℤ end
  pub to : end ≤ℤ high
  pub alone : (k : ℤ) → k ≤ℤ end → at other k ≡ None
  pub list_is : new ≡ after end list
  pub other_is : other ≡ after end other

-- one of two lists has a value, and a join of the kind does not select it
pub record IsNotAsked {A B : Type 0} (kind : JoinKind) (x : Option A) (y : Option B) : Type 0 where
  pub one : is_joined Full x y ≡ true
  pub not_asked : is_joined kind x y ≡ false

-- the new lists are without some keys up to `end`, which is at least s; a join of the kind selects none of these keys
pub record IsSkipped {A B : Type 0} (kind : JoinKind) (s high : ℤ) (left left_new : List (Entry A)) (right right_new : List (Entry B)) : Type 0 where
  pub end : ℤ
  pub from : s ≤ℤ end
  pub to : end ≤ℤ high
  pub none : (k : ℤ) → k ≤ℤ end → paired kind (at left k) (at right k) ≡ None
  pub left_is : left_new ≡ after end left
  pub right_is : right_new ≡ after end right

-- The keys of two lists from s, the first one, to `end` are processed. If the kind selects their segment, the segment
-- is appended to a list. Otherwise the kind selects none of these keys. The new lists are the parts after them.
pub record IsSegmentPut {A B : Type 0} (carrieda : A → A → Type 0) (carriedb : B → B → Type 0) (low high : ℤ) (kind : JoinKind) (s : ℤ) (left left_new : List (Entry A)) (right right_new : List (Entry B)) (out out_new : List (Entry (Option A × Option B))) : Type 0 where
  pub end : ℤ
  pub from : low ≤ℤ s
  pub order : s ≤ℤ end
  pub to : end ≤ℤ high
  pub left_is : left_new ≡ after end left
  pub right_is : right_new ≡ after end right
  pub given : Option (Option A × Option B)
  pub ends : MatchOption given ((k : ℤ) → s ≤ℤ k → k ≤ℤ end → paired kind (at left k) (at right k) ≡ None) (λ _. lesser (steady_to s left) (steady_to s right) ≡ Some end)
  pub carried : AreOptions (ArePairsCarried carrieda carriedb) (paired kind (at left end) (at right end)) given
  pub put : out_new ≡ out ++ piece_of s end given
