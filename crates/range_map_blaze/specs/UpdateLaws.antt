-- The laws of a range changed by a function: its effect key by key, and that painting a range, filling its keys
-- without a value, and removing a range are cases of it.
use Rattle.std.specs.declared.alloc.AllocError.{AllocError}
use Rattle.std.specs.Fn.{Mut}
use Rattle.std.specs.Option.{option_eq, option_or}
use Rattle.std.specs.Prelude.{ℤ, int_le, ◌&&◌, if◌then◌else◌, Bool, List, map, Option, Some, None, Result}
use Rattle.blaze_entries.specs.Cut.{IsRangeCut}
use Rattle.blaze_entries.specs.Entries.{Entry, entry, at, SameEntries, SameOption}
use Rattle.blaze_table.specs.Filled.{IsFilled}
use Rattle.blaze_entries.specs.Painted.{IsPainted}
use Rattle.range_map_blaze.specs.Updated.{IsUpdated, IsPartUpdated}

-- the content with the results of a plain function on the keys from l to h
abbrev pub changed : {V : Type 0} → ℤ → ℤ → (Option V → Option V) → (ℤ → Option V) → ℤ → Option V
changed l h change content k = if int_le l k && int_le k h then change (content k) else content k

-- each result equals that of the plain function at the old value of its piece
abbrev pub AreGivenBy : {V : Type 0} → (V → V → Bool) → (Option V → Option V) → List (Entry (Option V)) → List (Entry (Option V)) → Type 0
AreGivenBy eq change pieces answers = SameEntries (option_eq eq) answers (map (λ p. entry p.lo p.hi (change p.value)) pieces)

-- `shows` gives the list's value that the arguments of a call stand for
module _ {F A V : Type 0} (shows : A → Option V) (g : Mut F A (Result (Option V) AllocError)) (eq : V → V → Bool) (low high : ℤ) where
  -- each key of the range has the result of the plain function at its old value
  abbrev pub UpdatingIsByKeys : Type 0
  UpdatingIsByKeys = (l h : ℤ) (f : F) (old new : List (Entry V)) (change : Option V → Option V) (u : IsUpdated shows g eq low high l h f old new)
      → AreGivenBy eq change u.asked.pieces u.answers → (k : ℤ) → SameOption eq (at new k) (changed l h change (at old) k)

  -- if an allocation failed, the keys up to the end of a piece have these results
  abbrev pub PartUpdatingIsByKeys : Type 0
  PartUpdatingIsByKeys = (l h : ℤ) (f : F) (old new : List (Entry V)) (change : Option V → Option V) (u : IsPartUpdated shows g eq low high l h f old new)
      → AreGivenBy eq change u.asked.pieces u.answers → (k : ℤ) → SameOption eq (at new k) (if int_le k u.last then changed l h change (at old) k else at old k)

  -- if each result is one value, the entries are those that painting the range with it gives
  abbrev pub InsertingIsUpdating : Type 0
  InsertingIsUpdating = (l h : ℤ) (f : F) (v : V) (old new inserted : List (Entry V)) (u : IsUpdated shows g eq low high l h f old new)
      → AreGivenBy eq (λ _. Some v) u.asked.pieces u.answers → IsPainted eq low high (entry l h v) old inserted → SameEntries eq new inserted

  -- if each result is the old value, and one value where there was none, they are those that filling the range with it gives
  abbrev pub InsertingAbsentIsUpdating : Type 0
  InsertingAbsentIsUpdating = (l h : ℤ) (f : F) (v : V) (old new inserted : List (Entry V)) (u : IsUpdated shows g eq low high l h f old new)
      → AreGivenBy eq (λ o. option_or o (Some v)) u.asked.pieces u.answers → IsFilled eq low high (entry l h v) old inserted → SameEntries eq new inserted

  -- if each result is `None`, they are those that removing the range gives
  abbrev pub RemovingIsUpdating : Type 0
  RemovingIsUpdating = (l h : ℤ) (f : F) (old new removed : List (Entry V)) (u : IsUpdated shows g eq low high l h f old new)
      → AreGivenBy eq (λ _. None) u.asked.pieces u.answers → IsRangeCut eq low high l h old removed → SameEntries eq new removed
