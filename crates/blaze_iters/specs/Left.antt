-- The remaining keys of a key-wise iterator.
use Rattle.std.specs.Prelude.{◌≡◌, ℤ, pos, ◌+ℤ◌, ◌≤ℤ◌, List, [], ◌∷◌, ◌++◌, map, reverse, Option, None, Some, IfSome, MatchOption, option_map}
use Rattle.std.specs.Iterator.{YieldsFirstBy, YieldsLastBy}
use Rattle.std.specs.Option.{option_to_list}
use Rattle.blaze_entries.specs.declared.range_entry.RangeEntry.{RangeEntry}
use Rattle.blaze_entries.specs.Entries.{Entry, shown_range_entry}
use Rattle.blaze_entries.specs.Pairs.{pair_list}

-- the remaining part of the range that is open at each end, as an entry, and the iterator of the ranges between
pub record RangesLeft (V I : Type 0) : Type 0 where
  pub front : Option (Entry V)
  pub inner : I
  pub back : Option (Entry V)

-- no range is open
abbrev pub unopened : {V I : Type 0} → I → RangesLeft V I
unopened inner = record { front = None; inner = inner; back = None }

-- the remaining ranges, in order, where `left` gives the remaining ranges of the iterator between
abbrev pub ranges_left : {V I : Type 0} → (I → List (Entry V)) → RangesLeft V I → List (Entry V)
ranges_left left s = (option_to_list s.front ++ left s.inner) ++ option_to_list s.back

-- the remaining keys, ascending, each with its value: `next` yields the first, and `next_back` the last
abbrev pub pairs_left : {K V I : Type 0} → (ℤ → K) → (I → List (Entry V)) → RangesLeft V I → List (K × V)
pairs_left of_rank left s = pair_list of_rank (ranges_left left s)

abbrev pub keys_left : {K V I : Type 0} → (ℤ → K) → (I → List (Entry V)) → RangesLeft V I → List K
keys_left of_rank left s = map (λ p. p.0) (pairs_left of_rank left s)

abbrev pub values_left : {K V I : Type 0} → (ℤ → K) → (I → List (Entry V)) → RangesLeft V I → List V
values_left of_rank left s = map (λ p. p.1) (pairs_left of_rank left s)

-- ---- the range that a call opens

-- the ranges between, after a call at the front: the first of them is opened only if no range is open at the front
abbrev pub between_after : {V : Type 0} → Option (Entry V) → List (Entry V) → List (Entry V)
between_after (Some e) es = es
between_after None [] = []
between_after None (e ∷ es) = es

-- the range that is open at the far end: it is used only if no other range remains
abbrev pub far_after : {V : Type 0} → Option (Entry V) → List (Entry V) → Option (Entry V) → Option (Entry V)
far_after (Some e) es far = far
far_after None (e ∷ es) far = far
far_after None [] far = None

module _ {V I : Type 0} (left : I → List (Entry V)) where
  -- If a range is open at the front, the ranges between and the back do not change. Otherwise the first range between
  -- is opened, and the back does not change. Only if no range is between is the range at the back used.
  pub record OpensFirst (s t : RangesLeft V I) : Type 0 where
    pub between : left t.inner ≡ between_after s.front (left s.inner)
    pub far : t.back ≡ far_after s.front (left s.inner) s.back

  -- If a range is open at the back, the ranges between and the front do not change. Otherwise the last range between is
  -- opened, and the front does not change. Only if no range is between is the range at the front used.
  pub record OpensLast (s t : RangesLeft V I) : Type 0 where
    pub between : reverse (left t.inner) ≡ between_after s.back (reverse (left s.inner))
    pub far : t.front ≡ far_after s.back (reverse (left s.inner)) s.front

  module _ {A B : Type 0} (view : A → B) (items : RangesLeft V I → List B) where
    -- a call from s yielded the first remaining item, as `YieldsFirstBy` says, and opened no other range than it must
    abbrev pub YieldsOpeningFirst : RangesLeft V I → Option A → RangesLeft V I → Type 0
    YieldsOpeningFirst s r t = YieldsFirstBy view items s r t × IfSome r (λ _. OpensFirst s t)

    -- a call from s yielded the last remaining item, as `YieldsLastBy` says, and opened no other range than it must
    abbrev pub YieldsOpeningLast : RangesLeft V I → Option A → RangesLeft V I → Type 0
    YieldsOpeningLast s r t = YieldsLastBy view items s r t × IfSome r (λ _. OpensLast s t)

-- a key and a representation of its value
abbrev pub shown_key_value : {K R V : Type 0} → (R → V) → K × R → K × V
shown_key_value shown p = (p.0, shown p.1)

-- ---- definitions for this crate's own functions

-- the remaining keys, where an open range is stored as its first key, its last key and a representation of its value
abbrev pub shown_left : {T R V I : Type 0} → (T → ℤ) → (R → V) → Option (RangeEntry T R) → I → Option (RangeEntry T R) → RangesLeft V I
shown_left rank shown front inner back = record { front = option_map (shown_range_entry rank shown) front; inner = inner; back = option_map (shown_range_entry rank shown) back }

-- the remaining part of an open range is not empty
abbrev pub IsFull : {V : Type 0} → Option (Entry V) → Type 0
IsFull None = Unit {0}
IsFull (Some e) = e.lo ≤ℤ e.hi

abbrev pub AreEndsFull : {V I : Type 0} → RangesLeft V I → Type 0
AreEndsFull s = IsFull s.front × IsFull s.back

-- the key after the first key of a range, if the range has several keys
abbrev pub IsSecond : {K : Type 0} → (K → ℤ) → K → K → Option K → Type 0
IsSecond rank lo hi next = MatchOption next (rank lo ≡ rank hi) (λ k. (rank k ≡ rank lo +ℤ pos 1) × (rank k ≤ℤ rank hi))

-- the key before the last key of a range, if the range has several keys
abbrev pub IsSecondLast : {K : Type 0} → (K → ℤ) → K → K → Option K → Type 0
IsSecondLast rank lo hi previous = MatchOption previous (rank lo ≡ rank hi) (λ k. (rank k +ℤ pos 1 ≡ rank hi) × (rank lo ≤ℤ rank k))

-- a range without its first key: `None`, or the range from the next key on
abbrev pub IsRestAfter : {K R : Type 0} → (K → ℤ) → RangeEntry K R → Option (RangeEntry K R) → Type 0
IsRestAfter rank e rest = MatchOption rest (rank e.start ≡ rank e.end) (λ r. (rank r.start ≡ rank e.start +ℤ pos 1) × (rank r.start ≤ℤ rank e.end) × (r.end ≡ e.end) × (r.value ≡ e.value))

-- a range without its last key: `None`, or the range up to the previous key
abbrev pub IsRestBefore : {K R : Type 0} → (K → ℤ) → RangeEntry K R → Option (RangeEntry K R) → Type 0
IsRestBefore rank e rest = MatchOption rest (rank e.start ≡ rank e.end) (λ r. (rank r.end +ℤ pos 1 ≡ rank e.end) × (rank e.start ≤ℤ rank r.end) × (r.start ≡ e.start) × (r.value ≡ e.value))

module _ {K R A : Type 0} (rank : K → ℤ) (of_rank : ℤ → K) (given : RangeEntry K R → A) where
  -- the first key of the open range is taken, and the result is related to the range by `given`; `None` if no range is
  -- open
  abbrev pub TakesFirst : Option (RangeEntry K R) → Option A → Option (RangeEntry K R) → Type 0
  TakesFirst opened taken rest = MatchOption taken ((opened ≡ None) × (rest ≡ None)) (λ a. (e : RangeEntry K R) × (opened ≡ Some e) × (given e ≡ a) × (of_rank (rank e.start) ≡ e.start) × IsRestAfter rank e rest)

  -- the last key of the open range is taken, and the result is related to the range by `given`; `None` if no range is
  -- open
  abbrev pub TakesLast : Option (RangeEntry K R) → Option A → Option (RangeEntry K R) → Type 0
  TakesLast opened taken rest = MatchOption taken ((opened ≡ None) × (rest ≡ None)) (λ a. (e : RangeEntry K R) × (opened ≡ Some e) × (given e ≡ a) × (of_rank (rank e.end) ≡ e.end) × IsRestBefore rank e rest)
