-- The laws of range maps: of `==` and the order, operators, splits, paintings, lookups and iterators.
use Rattle.std.specs.Option.{option_xor}
use Rattle.std.specs.Prelude.{◌≡◌, ◌↔◌, ◌+◌, ℤ, pos, ◌+ℤ◌, ◌≤ℤ◌, ◌<ℤ◌, Bool, true, false, IsTrue, List, [], ◌∷◌, ◌++◌, map, Option, Some, None, MatchOption, IsSome, is_some, Result, Ok, Err}
use Rattle.std.specs.Iterator.{YieldsFirstBy, YieldsLastBy}
use Rattle.std.specs.List.{All}
use Rattle.std.specs.Cmp.{IsTotalOrder}
use Rattle.std.specs.declared.cmp.Ordering.{Ordering}
use Rattle.std.specs.declared.cmp.Ordering.TheVariants.{Equal}
use Rattle.std.specs.declared.alloc.AllocError.{AllocError}
use Rattle.blaze_int.specs.Ranked.{IsKey}
use Rattle.blaze_iters.specs.Left.{pairs_left}
use Rattle.blaze_iters.specs.Owned.{GivesFirst, GivesLast, IsLikePair, OwnedLeft}
use Rattle.blaze_entries.specs.Canonical.{IsRangeMap}
use Rattle.blaze_entries.specs.Chosen.{right_first, left_with_right, left_alone, IsChosen}
use Rattle.blaze_entries.specs.Count.{mapped_keys}
use Rattle.blaze_entries.specs.Cut.{IsSplit}
use Rattle.blaze_entries.specs.Entries.{Entry, entry, at, entry_at, SameContent, SameEntries, SameOption}
use Rattle.blaze_entries.specs.Equality.{same_entries}
use Rattle.blaze_table.specs.Gap.{IsGap}
use Rattle.blaze_entries.specs.Painted.{IsPainted}
use Rattle.range_map_blaze.specs.Extended.{IsExtended}
use Rattle.range_map_blaze.specs.Order.{map_cmp, ranked_pairs}

-- ---- `==` and the order

-- range maps are equal exactly if `get` returns equal values, or none, at every key
abbrev pub EqualWhereGetsAre : {T V : Type 0} → (T → ℤ) → (V → V → Bool) → ℤ → ℤ → Type 0
EqualWhereGetsAre {T} {V} rank eq low high = (L M : List (Entry V))
    → IsRangeMap eq low high L → IsRangeMap eq low high M
    → IsTrue (same_entries eq L M)
    ↔ ((key : T) → IsKey rank low high key → SameOption eq (at L (rank key)) (at M (rank key)))

-- the order of maps is total, and ties exactly where range maps have the same content
pub record IsOrderOfMaps {V : Type 0} (eq : V → V → Bool) (value : V → V → Ordering) (low high : ℤ)
    : Type 0 where
  pub total : IsTotalOrder (map_cmp value)
  pub equal : (L M : List (Entry V)) → IsRangeMap eq low high L → IsRangeMap eq low high M
      → (map_cmp value L M ≡ Equal) ↔ SameContent eq L M

-- ---- counts

-- `a | b` and `a & b` map as many keys together as `a` and `b` do
abbrev pub CountsAddUp : {V : Type 0} → (V → V → Bool) → ℤ → ℤ → Type 0
CountsAddUp {V} eq low high = (a b either both : List (Entry V))
    → IsChosen eq low high right_first a b either → IsChosen eq low high left_with_right b a both
    → mapped_keys low high (at either) + mapped_keys low high (at both)
    ≡ mapped_keys low high (at a) + mapped_keys low high (at b)

-- ---- splitting and appending

-- the map that a split returns, painted over the map that it keeps, is the map before
abbrev pub AppendUndoesSplit : {V : Type 0} → (V → V → Bool) → ℤ → ℤ → Type 0
AppendUndoesSplit {V} eq low high = (k : ℤ) (old below from new : List (Entry V))
    → IsRangeMap eq low high old → IsSplit eq low high k old below from
    → IsExtended eq low high from below new → SameEntries eq new old

-- ---- painting

-- pairs are painted one by one
abbrev pub AreAllPainted : {V : Type 0} → (V → V → Bool) → ℤ → ℤ → List (Entry V)
    → List (Entry V) → List (Entry V) → Type 0
AreAllPainted eq low high [] old new = old ≡ new
AreAllPainted {V} eq low high (p ∷ ps) old new =
    (next : List (Entry V)) × IsPainted eq low high p old next × AreAllPainted eq low high ps next new

-- each key of a list of entries as an entry of its own
abbrev pub points_of : {V : Type 0} → List (Entry V) → List (Entry V)
points_of es = map (λ p. entry p.0 p.0 p.1) (ranked_pairs es)

-- `a | b` is `a` after the entries of `b` are painted: all in one call, one by one, or key by key
pub record IsUnionOfPaints {V : Type 0} (eq : V → V → Bool) (low high : ℤ) (a b union : List (Entry V))
    : Type 0 where
  pub extended : (new : List (Entry V)) → IsExtended eq low high b a new → SameEntries eq union new
  pub in_turn : (new : List (Entry V)) → AreAllPainted eq low high b a new → SameEntries eq union new
  pub by_points : (new : List (Entry V)) → AreAllPainted eq low high (points_of b) a new
      → SameEntries eq union new

-- every union is that
abbrev pub UnionIsPainting : {V : Type 0} → (V → V → Bool) → ℤ → ℤ → Type 0
UnionIsPainting {V} eq low high = (a b union : List (Entry V))
    → IsRangeMap eq low high a → IsRangeMap eq low high b
    → IsChosen eq low high right_first a b union → IsUnionOfPaints eq low high a b union

-- ---- lookups from the least key on

module _ {V : Type 0} (low high : ℤ) (entries : List (Entry V)) where
  -- the result of `range_or_gap_at` at the key k: the entry there, or the gap around it
  abbrev pub IsRangeOrGapAt : ℤ → Entry (Option V) → Type 0
  IsRangeOrGapAt k p = MatchOption p.value
      ((at entries k ≡ None) × IsGap low high (at entries) k p.lo p.hi)
      (λ v. entry_at entries k ≡ Some (entry p.lo p.hi v))

  -- its results at the key k, and then at the key above the end of each result, up to the greatest key
  abbrev pub AreRangesOrGapsFrom : ℤ → List (Entry (Option V)) → Type 0
  AreRangesOrGapsFrom k [] = high <ℤ k
  AreRangesOrGapsFrom k (p ∷ ps) =
      (k ≤ℤ high) × IsRangeOrGapAt k p × AreRangesOrGapsFrom (p.hi +ℤ pos 1) ps

  -- the ranges have each key from k up to the greatest once, in order, and each key of a range has its value
  abbrev pub CoverFrom : ℤ → List (Entry (Option V)) → Type 0
  CoverFrom k [] = k ≡ high +ℤ pos 1
  CoverFrom k (p ∷ ps) =
      (p.lo ≡ k) × (p.lo ≤ℤ p.hi)
      × ((j : ℤ) → p.lo ≤ℤ j → j ≤ℤ p.hi → at entries j ≡ p.value)
      × CoverFrom (p.hi +ℤ pos 1) ps

-- the results from the least key on cover the keys
abbrev pub LookUpsCover : {V : Type 0} → (V → V → Bool) → ℤ → ℤ → Type 0
LookUpsCover {V} eq low high = (entries : List (Entry V)) (answers : List (Entry (Option V)))
    → IsRangeMap eq low high entries → AreRangesOrGapsFrom low high entries low answers
    → CoverFrom low high entries low answers

-- ---- calls of an iterator from both ends

-- the items that calls gave from the front (`true`), in their order
module _ {A : Type 0} where
  abbrev pub given_in_front : Bool → Option A → List A → List A
  given_in_front true (Some x) given = x ∷ given
  given_in_front true None given = given
  given_in_front false item given = given

  abbrev pub from_front : List (Bool × Option A) → List A
  from_front [] = []
  from_front (c ∷ calls) = given_in_front c.0 c.1 (from_front calls)

  -- those from the back (`false`), the last given first
  abbrev pub given_behind : Bool → Option A → List A → List A
  given_behind false (Some x) given = given ++ x ∷ []
  given_behind false None given = given
  given_behind true item given = given

  abbrev pub from_back : List (Bool × Option A) → List A
  from_back [] = []
  from_back (c ∷ calls) = given_behind c.0 c.1 (from_back calls)

  -- after the first `None` all results are `None`
  abbrev pub AreNoneFromNone : List (Bool × Option A) → Type 0
  AreNoneFromNone [] = Unit {0}
  AreNoneFromNone (c ∷ calls) = (c.1 ≡ None → All (λ later. later.1 ≡ None) calls) × AreNoneFromNone calls

-- `left` gives the items that an iterator still has, and `view` the item that a call gives
module _ {S A B : Type 0} (view : A → B) (left : S → List B) where
  -- a call of `next` (`true`) or of `next_back` (`false`): it takes the first or the last item that
  -- the iterator still has, and gives `None` if there is none
  abbrev pub Takes : Bool → S → Option A → S → Type 0
  Takes true s given t = YieldsFirstBy view left s given t
  Takes false s given t = YieldsLastBy view left s given t

  -- calls in any mix, one after another
  abbrev pub TakeAll : List (Bool × Option A) → S → S → Type 0
  TakeAll [] s t = s ≡ t
  TakeAll (c ∷ calls) s t = (next : S) × Takes c.0 s c.1 next × TakeAll calls next t

  -- The items that the calls gave and those that the iterator still has are all items, each once:
  -- those from the front, those that it still has, those from the back. Once a call gave `None`, all later ones do.
  pub record IsEachOnce (calls : List (Bool × Option A)) (s t : S) : Type 0 where
    pub parts : left s ≡ map view (from_front calls) ++ left t ++ map view (from_back calls)
    pub for_good : AreNoneFromNone calls

  -- calls in any mix give each item once
  abbrev pub EachOnce : Type 0
  EachOnce = (calls : List (Bool × Option A)) (s t : S) → TakeAll calls s t → IsEachOnce calls s t

-- ---- calls of an owned iterator, from both ends

module _ {V A B : Type 0} (left : OwnedLeft V → List B) (IsGiven : A → B → Type 0) where
  -- a call of `next` (`true`) or of `next_back` (`false`), whose clone may fail
  abbrev pub TakesOwned : Bool → OwnedLeft V → Option (Result A AllocError) → OwnedLeft V → Type 0
  TakesOwned true s given t = GivesFirst left IsGiven s given t
  TakesOwned false s given t = GivesLast left IsGiven s given t

  -- calls in any mix, one after another
  abbrev pub TakeAllOwned : List (Bool × Option (Result A AllocError)) → OwnedLeft V → OwnedLeft V → Type 0
  TakeAllOwned [] s t = s ≡ t
  TakeAllOwned (c ∷ calls) s t =
      (next : OwnedLeft V) × TakesOwned c.0 s c.1 next × TakeAllOwned calls next t

  -- the item that a call gave, or no item if it gave `None` or its clone failed
  abbrev pub IsItem : Option (Result A AllocError) → Option B → Type 0
  IsItem None None = Unit {0}
  IsItem None (Some b) = ⊥
  IsItem (Some (Ok a)) None = ⊥
  IsItem (Some (Ok a)) (Some b) = IsGiven a b
  IsItem (Some (Err e)) None = Unit {0}
  IsItem (Some (Err e)) (Some b) = ⊥

  -- the items of calls, each from its end
  abbrev pub AreItems : List (Bool × Option (Result A AllocError)) → List (Bool × Option B) → Type 0
  AreItems [] [] = Unit {0}
  AreItems [] (i ∷ items) = ⊥
  AreItems (c ∷ calls) [] = ⊥
  AreItems (c ∷ calls) (i ∷ items) = (c.0 ≡ i.0) × IsItem c.1 i.1 × AreItems calls items

  -- the call gave no item
  abbrev pub HasEnded : Option (Result A AllocError) → Type 0
  HasEnded None = Unit {0}
  HasEnded (Some (Ok a)) = ⊥
  HasEnded (Some (Err e)) = Unit {0}

  -- its clone did not fail
  abbrev pub IsNotRefused : Option (Result A AllocError) → Type 0
  IsNotRefused None = Unit {0}
  IsNotRefused (Some (Ok a)) = Unit {0}
  IsNotRefused (Some (Err e)) = ⊥

  -- after the first `None` or failed clone all results are `None`
  abbrev pub AreNoneFromEnd : List (Bool × Option (Result A AllocError)) → Type 0
  AreNoneFromEnd [] = Unit {0}
  AreNoneFromEnd (c ∷ calls) = (HasEnded c.1 → All (λ later. later.1 ≡ None) calls) × AreNoneFromEnd calls

  -- If no clone failed, the items that the calls gave and those that the iterator still has are all
  -- items, each once. Once a call gave `None` or its clone failed, all later ones give `None`.
  pub record IsEachOnceOwned (calls : List (Bool × Option (Result A AllocError))) (s t : OwnedLeft V) : Type 0 where
    pub items : List (Bool × Option B)
    pub given : AreItems calls items
    pub parts : All (λ c. IsNotRefused c.1) calls → left s ≡ from_front items ++ left t ++ from_back items
    pub for_good : AreNoneFromEnd calls

-- calls in any mix give each pair once, with a value that is equal to the stored one
abbrev pub EachOnceOwned : {K V : Type 0} → (ℤ → K) → (V → V → Bool) → Type 0
EachOnceOwned {K} {V} of_rank eq = (calls : List (Bool × Option (Result (K × V) AllocError))) (s t : OwnedLeft V)
    → TakeAllOwned (pairs_left of_rank (λ es. es)) (IsLikePair eq) calls s t
    → IsEachOnceOwned (pairs_left of_rank (λ es. es)) (IsLikePair eq) calls s t

-- ---- operators on contents: at each key

-- `(a | b) | c` is `a | (b | c)`
abbrev pub UnionIsAssociative : Type 0 → Type 0
UnionIsAssociative V = (x y z : ℤ → Option V) (k : ℤ)
    → right_first (right_first (x k) (y k)) (z k) ≡ right_first (x k) (right_first (y k) (z k))

-- `a | a` is `a`
abbrev pub UnionIsIdempotent : Type 0 → Type 0
UnionIsIdempotent V = (x : ℤ → Option V) (k : ℤ) → right_first (x k) (x k) ≡ x k

-- `a` with the empty map on either side is `a`
abbrev pub EmptyIsUnit : Type 0 → Type 0
EmptyIsUnit V = (x : ℤ → Option V) (k : ℤ)
    → (right_first (x k) (at [] k) ≡ x k) × (right_first (at [] k) (x k) ≡ x k)

-- no key has a value in both
abbrev pub AreDisjoint : {V : Type 0} → (ℤ → Option V) → (ℤ → Option V) → Type 0
AreDisjoint x y = (k : ℤ) → IsSome (x k) → y k ≡ None

-- then `a | b` is `b | a`
abbrev pub DisjointUnionCommutes : Type 0 → Type 0
DisjointUnionCommutes V = (x y : ℤ → Option V) → AreDisjoint x y
    → (k : ℤ) → right_first (x k) (y k) ≡ right_first (y k) (x k)

-- where `u` has a value at a key, `u & a` is `a` there; `a & u` is `u` there where `a` has a value, else nothing
abbrev pub UniversalKeeps : Type 0 → Type 0
UniversalKeeps V = (u x : ℤ → Option V) (k : ℤ) → IsSome (u k)
    → (left_with_right (x k) (u k) ≡ x k)
    × (IsSome (x k) → left_with_right (u k) (x k) ≡ u k)
    × (x k ≡ None → left_with_right (u k) (x k) ≡ None)

-- `a & s` is `a` on the keys of the set, and nothing elsewhere
abbrev pub SetKeeps : Type 0 → Type 0
SetKeeps V = (x : ℤ → Option V) (s : ℤ → Option (Unit {0})) (k : ℤ)
    → (IsSome (s k) → left_with_right (x k) (s k) ≡ x k)
    × (s k ≡ None → left_with_right (x k) (s k) ≡ None)

-- `a ^ a` is empty
abbrev pub XorWithItselfIsEmpty : Type 0 → Type 0
XorWithItselfIsEmpty V = (x : ℤ → Option V) (k : ℤ) → option_xor (x k) (x k) ≡ None

-- `(a - b) | (a & b)` has the keys of `a`
abbrev pub PartsHaveItsKeys : Type 0 → Type 0
PartsHaveItsKeys V = (x y : ℤ → Option V) (k : ℤ)
    → is_some (right_first (left_alone (x k) (y k)) (left_with_right (y k) (x k))) ≡ is_some (x k)
