-- The items of the owned iterators, whose clones may fail.
use Rattle.std.specs.Prelude.{◌≡◌, ℤ, ◌<ℤ◌, Bool, true, List, [], ◌∷◌, ◌++◌, Option, None, Some, MatchOption, Result, MatchResult}
use Rattle.std.specs.declared.alloc.AllocError.{AllocError}
use Rattle.blaze_entries.specs.declared.range_entry.RangeEntry.{RangeEntry}
use Rattle.blaze_entries.specs.Entries.{Entry}
use Rattle.blaze_entries.specs.Canonical.{IsDisjoint}
use Rattle.blaze_iters.specs.Left.{RangesLeft, unopened, ranges_left, AreEndsFull, OpensFirst, OpensLast, IsRestAfter, IsRestBefore}

-- the remaining ranges of an owned iterator
abbrev pub OwnedLeft : Type 0 → Type 0
OwnedLeft V = RangesLeft V (List (Entry V))

abbrev pub owned_ranges : {V : Type 0} → OwnedLeft V → List (Entry V)
owned_ranges s = ranges_left (λ es. es) s

-- no remaining range is empty
abbrev pub IsOwned : {V : Type 0} → OwnedLeft V → Type 0
IsOwned s = AreEndsFull s × IsDisjoint s.inner

-- the first remaining range has several keys
abbrev pub HasSeveralFirst : {V : Type 0} → OwnedLeft V → Type 0
HasSeveralFirst {V} s = (e : Entry V) × (es : List (Entry V)) × (owned_ranges s ≡ e ∷ es) × (e.lo <ℤ e.hi)

-- the last remaining range has several keys
abbrev pub HasSeveralLast : {V : Type 0} → OwnedLeft V → Type 0
HasSeveralLast {V} s = (e : Entry V) × (es : List (Entry V)) × (owned_ranges s ≡ es ++ e ∷ []) × (e.lo <ℤ e.hi)

module _ {V A B : Type 0} (items : OwnedLeft V → List B) (IsGiven : A → B → Type 0) where
  -- A call from s yielded the first remaining item and opened no other range than it must, or returned `None` if
  -- nothing remained. Or a clone failed, for a key that is not the last of its range, and then nothing remains.
  abbrev pub GivesFirst : OwnedLeft V → Option (Result A AllocError) → OwnedLeft V → Type 0
  GivesFirst s r t = MatchOption r ((items s ≡ []) × (items t ≡ []))
      (λ given. MatchResult given (λ a. ((b : B) × (items s ≡ b ∷ items t) × IsGiven a b) × OpensFirst (λ es. es) s t) (λ _. HasSeveralFirst s × (t ≡ unopened [])))

  -- A call from s yielded the last remaining item and opened no other range than it must, or returned `None` if nothing
  -- remained. Or a clone failed, for a key that is not the last remaining one of its range, and then nothing remains.
  abbrev pub GivesLast : OwnedLeft V → Option (Result A AllocError) → OwnedLeft V → Type 0
  GivesLast s r t = MatchOption r ((items s ≡ []) × (items t ≡ []))
      (λ given. MatchResult given (λ a. ((b : B) × (items s ≡ items t ++ b ∷ []) × IsGiven a b) × OpensLast (λ es. es) s t) (λ _. HasSeveralLast s × (t ≡ unopened [])))

-- ---- definitions for this crate's own functions

module _ {V A B : Type 0} (items : OwnedLeft V → List B) (IsGiven : A → B → Type 0) where
  -- like `GivesFirst`, except that something may remain after a failed clone
  abbrev pub GivesFirstOrRefuses : OwnedLeft V → Option (Result A AllocError) → OwnedLeft V → Type 0
  GivesFirstOrRefuses s r t = MatchOption r ((items s ≡ []) × (items t ≡ []))
      (λ given. MatchResult given (λ a. ((b : B) × (items s ≡ b ∷ items t) × IsGiven a b) × OpensFirst (λ es. es) s t) (λ _. HasSeveralFirst s))

  -- like `GivesLast`, except that something may remain after a failed clone
  abbrev pub GivesLastOrRefuses : OwnedLeft V → Option (Result A AllocError) → OwnedLeft V → Type 0
  GivesLastOrRefuses s r t = MatchOption r ((items s ≡ []) × (items t ≡ []))
      (λ given. MatchResult given (λ a. ((b : B) × (items s ≡ items t ++ b ∷ []) × IsGiven a b) × OpensLast (λ es. es) s t) (λ _. HasSeveralLast s))

module _ {K V : Type 0} (rank : K → ℤ) (of_rank : ℤ → K) (eq : V → V → Bool) where
  -- The first key of the open range is taken and returned with a value equal to the range's. Or a clone fails, for a
  -- key that is not the only one. `None` if no range is open.
  abbrev pub TakesFirstLike : Option (RangeEntry K V) → Option (Result (K × V) AllocError) → Option (RangeEntry K V) → Type 0
  TakesFirstLike opened r rest = MatchOption r ((opened ≡ None) × (rest ≡ None))
      (λ given. (e : RangeEntry K V) × (opened ≡ Some e) × MatchResult given (λ a. (a.0 ≡ e.start) × (eq e.value a.1 ≡ true) × (of_rank (rank e.start) ≡ e.start) × IsRestAfter rank e rest) (λ _. (rank e.start <ℤ rank e.end) × (rest ≡ Some e)))

  -- The last key of the open range is taken and returned with a value equal to the range's. Or a clone fails, for a key
  -- that is not the only one. `None` if no range is open.
  abbrev pub TakesLastLike : Option (RangeEntry K V) → Option (Result (K × V) AllocError) → Option (RangeEntry K V) → Type 0
  TakesLastLike opened r rest = MatchOption r ((opened ≡ None) × (rest ≡ None))
      (λ given. (e : RangeEntry K V) × (opened ≡ Some e) × MatchResult given (λ a. (a.0 ≡ e.end) × (eq e.value a.1 ≡ true) × (of_rank (rank e.end) ≡ e.end) × IsRestBefore rank e rest) (λ _. (rank e.start <ℤ rank e.end) × (rest ≡ Some e)))

-- a pair with the stored key, and a value equal to the stored one
abbrev pub IsLikePair : {K V : Type 0} → (V → V → Bool) → K × V → K × V → Type 0
IsLikePair eq given stored = (given.0 ≡ stored.0) × (eq stored.1 given.1 ≡ true)

-- a value equal to the stored one
abbrev pub IsLike : {V : Type 0} → (V → V → Bool) → V → V → Type 0
IsLike eq given stored = eq stored given ≡ true
