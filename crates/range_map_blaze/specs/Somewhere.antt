-- The effect of a call whose range has unknown bounds: they are those of some range of keys, or of none.
use Rattle.std.specs.Prelude.{◌≡◌, ◌⊎◌, ℤ, Bool, List, [], Option, Result}
use Rattle.std.specs.declared.alloc.AllocError.{AllocError}
use Rattle.std.specs.Fn.{Mut}
use Rattle.blaze_entries.specs.Entries.{Entry, entry}
use Rattle.blaze_entries.specs.Painted.{IsPainted}
use Rattle.blaze_table.specs.Filled.{IsFilled}
use Rattle.blaze_entries.specs.Chosen.{left_with_right, left_alone, IsChosen}
use Rattle.blaze_entries.specs.Cut.{IsRangeCut}
use Rattle.blaze_entries.specs.Ending.{overlapping}
use Rattle.blaze_entries.specs.RangeSets.{unit_eq}
use Rattle.range_map_blaze.specs.OneRange.{one_range}
use Rattle.range_map_blaze.specs.Updated.{IsUpdated, IsPartUpdated}

-- the value of every key of some range is set, or nothing is changed
abbrev pub IsPaintedSomewhere : {V : Type 0} → (V → V → Bool) → ℤ → ℤ → V → List (Entry V) → List (Entry V) → Type 0
IsPaintedSomewhere eq low high v old new = (new ≡ old) ⊎ ((l : ℤ) × (h : ℤ) × IsPainted eq low high (entry l h v) old new)

-- the value of the keys of some range that have none is set, or nothing is changed
abbrev pub IsFilledSomewhere : {V : Type 0} → (V → V → Bool) → ℤ → ℤ → V → List (Entry V) → List (Entry V) → Type 0
IsFilledSomewhere eq low high v old new = (new ≡ old) ⊎ ((l : ℤ) × (h : ℤ) × IsFilled eq low high (entry l h v) old new)

-- the entries are those of the list on some range of keys, or there are none
abbrev pub IsTakenSomewhere : {V : Type 0} → (V → V → Bool) → ℤ → ℤ → List (Entry V) → List (Entry V) → Type 0
IsTakenSomewhere eq low high old new = (new ≡ []) ⊎ ((l : ℤ) × (h : ℤ) × IsChosen eq low high left_with_right old (one_range l h) new)

-- the keys of some range are removed, or nothing is changed
abbrev pub IsCutSomewhere : {V : Type 0} → (V → V → Bool) → ℤ → ℤ → List (Entry V) → List (Entry V) → Type 0
IsCutSomewhere eq low high old new = (new ≡ old) ⊎ ((l : ℤ) × (h : ℤ) × IsRangeCut eq low high l h old new)

-- the entries share a key with some range, or there are none
abbrev pub IsOverlappingSomewhere : {V : Type 0} → List (Entry V) → List (Entry V) → Type 0
IsOverlappingSomewhere old new = (new ≡ []) ⊎ ((l : ℤ) × (h : ℤ) × (new ≡ overlapping l h old))

-- the ranges are the keys of some range that no entry has, or there are none
abbrev pub AreGapsSomewhere : {V : Type 0} → ℤ → ℤ → List (Entry V) → List (Entry (Unit {0})) → Type 0
AreGapsSomewhere low high old new = (new ≡ []) ⊎ ((l : ℤ) × (h : ℤ) × IsChosen unit_eq low high left_alone (one_range l h) old new)

-- the values of some range of keys are changed by the function, all or a first part of them, or nothing is changed
abbrev pub IsUpdatedSomewhere : {F A V : Type 0} → (A → Option V) → Mut F A (Result (Option V) AllocError) → (V → V → Bool) → ℤ → ℤ → F → List (Entry V) → List (Entry V) → Type 0
IsUpdatedSomewhere shows g eq low high f old new = (new ≡ old) ⊎ ((l : ℤ) × (h : ℤ) × (IsUpdated shows g eq low high l h f old new ⊎ IsPartUpdated shows g eq low high l h f old new))
