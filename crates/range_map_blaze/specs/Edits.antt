-- The edits that bring the results of a function into a map: the words of this crate's own functions. No public clause names them.
use Rattle.std.specs.declared.alloc.AllocError.{AllocError}
use Rattle.std.specs.Fn.{Mut}
use Rattle.std.specs.List.{Contains}
use Rattle.std.specs.Option.{option_eq}
use Rattle.std.specs.Prelude.{◌≡◌, ℤ, pos, ◌+ℤ◌, if◌then◌else◌, Bool, List, [], ◌∷◌, ◌++◌, Option, Some, Result, Ok}
use Rattle.blaze_streams.specs.Answers.{AnswersAtValue}
use Rattle.blaze_streams.specs.Fills.{none_before, IsFilledWithNone}
use Rattle.blaze_entries.specs.Canonical.{IsRangeMap, HasEnd}
use Rattle.blaze_entries.specs.Entries.{Entry, entry, at, holds, SameEntries, SameOption}
use Rattle.blaze_entries.specs.Splice.{glue}
use Rattle.blaze_entries.specs.Painted.{IsApartFrom}
use Rattle.range_map_blaze.specs.Updated.{updated, changes, AreAnswersAtPieces, AreApartFrom}

-- the result at a piece appended to a list of edits, joined with the last where the two touch and are equal; a result that equals the old
-- value of the piece is left out
abbrev pub with_edit : {V : Type 0} → (V → V → Bool) → List (Entry (Option V)) → Entry (Option V) → Option V → List (Entry (Option V))
with_edit eq edits piece answer = if option_eq eq answer piece.value then edits else glue (option_eq eq) edits (entry piece.lo piece.hi answer ∷ [])

-- each edit ends where one of the changes does
abbrev pub AreEndsOf : {V : Type 0} → List (Entry (Option V)) → List (Entry (Option V)) → Type 0
AreEndsOf changed [] = Unit {0}
AreEndsOf changed (e ∷ edits) = HasEnd changed e.hi × AreEndsOf changed edits

-- `shows` gives the list's value that the arguments of a call stand for
module _ {F A V : Type 0} (shows : A → Option V) (g : Mut F A (Result (Option V) AllocError)) (eq : V → V → Bool) where
  -- the function was called at a piece, and its result is appended to a list of edits
  pub record IsPieceAsked (piece : Entry (Option V)) (f f' : F) (edits new : List (Entry (Option V))) : Type 0 where
    pub answer : Option V
    pub called : AnswersAtValue shows g f piece.value (Ok answer) f'
    pub put : new ≡ with_edit eq edits piece answer

  -- the function was called at some pieces, in order, and its results are appended
  abbrev pub ArePiecesAsked : List (Entry (Option V)) → F → F → List (Entry (Option V)) → List (Entry (Option V)) → Type 0
  ArePiecesAsked [] f f' edits new = (f' ≡ f) × (new ≡ edits)
  ArePiecesAsked (piece ∷ pieces) f f' edits new =
      (f'' : F) × (next : List (Entry (Option V))) × IsPieceAsked piece f f'' edits next × ArePiecesAsked pieces f'' f' next new

  -- The function was called at the entries on the keys from l to h and at the gaps between them, in order: the last of the pieces
  -- is the gap from the key n on, which has no call yet.
  pub record AreEntriesAsked (l h : ℤ) (entries : List (Entry V)) (n : ℤ) (f f' : F) (edits new : List (Entry (Option V))) : Type 0 where
    pub pieces : List (Entry (Option V))
    pub are_pieces : IsFilledWithNone eq l h entries (pieces ++ none_before n (h +ℤ pos 1))
    pub asked : ArePiecesAsked pieces f f' edits new

  -- A list of edits that bring the results of a function at the pieces of the keys from l to h into a map. It is empty if every
  -- result equals the old value. Each edit ends where a changed piece does. The edits leave alone what the changed pieces do.
  pub record AreEdits (l h : ℤ) (f : F) (old : List (Entry V)) (edits : List (Entry (Option V))) : Type 0 where
    pub answers : List (Entry (Option V))
    pub asked : AreAnswersAtPieces shows g eq l h f old answers
    pub range_map : IsRangeMap (option_eq eq) l h edits
    pub content : (k : ℤ) → SameOption eq (updated edits (at old) k) (updated answers (at old) k)
    pub ends : AreEndsOf (changes eq asked.pieces answers) edits
    pub apart : (e : Entry V) → Contains old e → AreApartFrom eq (changes eq asked.pieces answers) e → AreApartFrom eq edits e
    pub same : SameEntries (option_eq eq) answers asked.pieces → edits ≡ []

-- one edit: its keys have its value, or none, and the others their old ones
pub record IsEdited {V : Type 0} (eq : V → V → Bool) (low high : ℤ) (e : Entry (Option V)) (old new : List (Entry V)) : Type 0 where
  pub range_map : IsRangeMap eq low high new
  pub content : (k : ℤ) → SameOption eq (at new k) (if holds e k then e.value else at old k)
  pub kept : (d : Entry V) → Contains old d → IsApartFrom (option_eq eq) e (entry d.lo d.hi (Some d.value)) → Contains new d

-- the edits, in order
pub record AreEdited {V : Type 0} (eq : V → V → Bool) (low high : ℤ) (edits : List (Entry (Option V))) (old new : List (Entry V)) : Type 0 where
  pub range_map : IsRangeMap eq low high new
  pub content : (k : ℤ) → SameOption eq (at new k) (updated edits (at old) k)
  pub none : edits ≡ [] → new ≡ old
  pub kept : (e : Entry V) → Contains old e → AreApartFrom eq edits e → Contains new e

-- a first part of the edits, perhaps none of them
pub record IsPartEdited {V : Type 0} (eq : V → V → Bool) (low high : ℤ) (edits : List (Entry (Option V))) (old new : List (Entry V)) : Type 0 where
  pub done : List (Entry (Option V))
  pub rest : List (Entry (Option V))
  pub parts : edits ≡ done ++ rest
  pub edited : AreEdited eq low high done old new
