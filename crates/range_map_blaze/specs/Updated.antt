-- A range changed by a function: the pieces at which it is called, and the map afterwards.
use Rattle.std.specs.declared.alloc.AllocError.{AllocError}
use Rattle.std.specs.Fn.{Mut, Called}
use Rattle.std.specs.List.{Contains, FoldsTo}
use Rattle.std.specs.Option.{option_eq}
use Rattle.std.specs.Prelude.{◌≡◌, ◌⊎◌, ℤ, ◌≤ℤ◌, ◌<ℤ◌, int_le, if◌then◌else◌, Bool, true, List, [], ◌∷◌, map, Option, Some, None, Result, Ok, Err}
use Rattle.blaze_streams.specs.Answers.{values, entries_with_results, AnswersAtValue, AnswersInTurn, IsCallableAtEachValue, SomeCallAtValue}
use Rattle.blaze_streams.specs.Fills.{IsFilledWithNone}
use Rattle.blaze_entries.specs.Canonical.{IsRangeMap, HasEnd}
use Rattle.blaze_entries.specs.Entries.{Entry, entry, at, SameEntries, SameOption}
use Rattle.blaze_entries.specs.Painted.{IsApartFrom}

-- the value of a key after a result, if there is one, and otherwise its old value
abbrev pub answer_or : {V : Type 0} → Option (Option V) → Option V → Option V
answer_or None old = old
answer_or (Some answer) old = answer

-- the content with the results: on the keys of their ranges their values, `None` for no value, and elsewhere as before
abbrev pub updated : {V : Type 0} → List (Entry (Option V)) → (ℤ → Option V) → ℤ → Option V
updated answers content k = answer_or (at answers k) (content k)

-- the content with the results up to the key b, and as before above it
abbrev pub updated_up_to : {V : Type 0} → ℤ → List (Entry (Option V)) → (ℤ → Option V) → ℤ → Option V
updated_up_to b answers content k = if int_le k b then updated answers content k else content k

-- the results that differ from the old values of their pieces
abbrev pub changes : {V : Type 0} → (V → V → Bool) → List (Entry (Option V)) → List (Entry (Option V)) → List (Entry (Option V))
changes eq [] answers = []
changes eq (p ∷ pieces) [] = []
changes eq (p ∷ pieces) (a ∷ answers) = if option_eq eq a.value p.value then changes eq pieces answers else a ∷ changes eq pieces answers

-- no key of the results is in the entry, and it is not one run with any of them
abbrev pub AreApartFrom : {V : Type 0} → (V → V → Bool) → List (Entry (Option V)) → Entry V → Type 0
AreApartFrom eq [] e = Unit {0}
AreApartFrom eq (a ∷ answers) e = IsApartFrom (option_eq eq) a (entry e.lo e.hi (Some e.value)) × AreApartFrom eq answers e

-- a call returned a value or `None` that equals the old one
abbrev pub IsSteady : {V : Type 0} → (V → V → Bool) → Option V → Result (Option V) AllocError → Type 0
IsSteady eq old (Ok answer) = option_eq eq answer old ≡ true
IsSteady eq old (Err e) = ⊥

-- `shows` gives the list's value that the arguments of a call stand for
module _ {F A V : Type 0} (shows : A → Option V) (g : Mut F A (Result (Option V) AllocError)) where
  -- each call leaves the function as it is, and one with this old value returns the new one
  abbrev pub Gives : F → Option V → Option V → Type 0
  Gives f old new = (arguments : A) (r : Result (Option V) AllocError) (f' : F) → Called g f arguments r f' → (f' ≡ f) × (shows arguments ≡ old → r ≡ Ok new)

module _ {F A V : Type 0} (shows : A → Option V) (g : Mut F A (Result (Option V) AllocError)) (eq : V → V → Bool) where
  -- each call of f with this old value returns an equal one
  abbrev pub KeepsValue : F → Option V → Type 0
  KeepsValue f old = (f' : F) (r : Result (Option V) AllocError) → AnswersAtValue shows g f old r f' → IsSteady eq old r

  -- so does each call with what a key from l to h has, in each state that calls of f can leave
  abbrev pub KeepsValues : ℤ → ℤ → F → List (Entry V) → Type 0
  KeepsValues l h f entries = (k : ℤ) → l ≤ℤ k → k ≤ℤ h → (before : List (Option V)) (f' : F) → FoldsTo (SomeCallAtValue shows g) f before f' → KeepsValue f' (at entries k)

  -- The pieces of the keys from l to h are the greatest ranges there on which the list does not change: its entries, cut to these
  -- keys, and its gaps. The function may be called at each of them in turn, in the state after the calls at those before.
  pub record IsCallableAtPieces (l h : ℤ) (f : F) (entries : List (Entry V)) : Type 0 where
    pub at : (pieces : List (Entry (Option V))) → IsFilledWithNone eq l h entries pieces → IsCallableAtEachValue shows g f (values pieces)

  -- The function was called once for each piece, ascending, and each call returned a value or `None`. These are the results, each on
  -- the keys of its piece.
  pub record AreAnswersAtPieces (l h : ℤ) (f : F) (entries : List (Entry V)) (answers : List (Entry (Option V))) : Type 0 where
    pub pieces : List (Entry (Option V))
    pub are_pieces : IsFilledWithNone eq l h entries pieces
    pub results : List (Option V)
    pub in_turn : AnswersInTurn shows g f (values pieces) (map Ok results)
    pub answers_are : answers ≡ entries_with_results pieces results

  module _ (low high l h : ℤ) (f : F) (old new : List (Entry V)) where
    -- Each piece has the result of the function there, and each key outside the range its old value. If the function has no state,
    -- each key of the range has what it returns for the key's old value. An entry that no changed piece overlaps, or is one run
    -- with, remains with its very value. If every result equals the old value, nothing changes.
    pub record IsUpdated : Type 0 where
      pub answers : List (Entry (Option V))
      pub asked : AreAnswersAtPieces l h f old answers
      pub range_map : IsRangeMap eq low high new
      pub content : (k : ℤ) → SameOption eq (at new k) (updated answers (at old) k)
      pub inside : (k : ℤ) → l ≤ℤ k → k ≤ℤ h → (value : Option V) → Gives shows g f (at old k) value → SameOption eq (at new k) value
      pub outside : (k : ℤ) → (k <ℤ l) ⊎ (h <ℤ k) → SameOption eq (at new k) (at old k)
      pub kept : (e : Entry V) → Contains old e → AreApartFrom eq (changes eq asked.pieces answers) e → Contains new e
      pub same : SameEntries (option_eq eq) answers asked.pieces → new ≡ old

    -- The pieces up to the end of one that changes, perhaps none, have the results of the function, and all other keys their old
    -- values. Entries remain as with `IsUpdated`.
    pub record IsPartUpdated : Type 0 where
      pub answers : List (Entry (Option V))
      pub asked : AreAnswersAtPieces l h f old answers
      pub last : ℤ
      pub is_end : (last <ℤ l) ⊎ HasEnd (changes eq asked.pieces answers) last
      pub range_map : IsRangeMap eq low high new
      pub content : (k : ℤ) → SameOption eq (at new k) (updated_up_to last answers (at old) k)
      pub outside : (k : ℤ) → (k <ℤ l) ⊎ (h <ℤ k) → SameOption eq (at new k) (at old k)
      pub kept : (e : Entry V) → Contains old e → AreApartFrom eq (changes eq asked.pieces answers) e → Contains new e
