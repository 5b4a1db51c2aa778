-- Clones of entries.
use Rattle.std.specs.Prelude.{◌≡◌, ℤ, ◌≤ℤ◌, ◌<ℤ◌, List, Option, Some, None, IsSomeAnd}
use Rattle.std.specs.List.{AllZip}
use Rattle.blaze_entries.specs.Entries.{Entry}
use Rattle.blaze_entries.specs.Found.{range_in, shown_ends}
use Rattle.blaze_entries.specs.declared.range_entry.RangeEntry.{RangeEntry}

-- position by position, the ranges are equal and the value is a clone
abbrev pub AreCloned : {V : Type 0} → (V → V → Type 0) → List (Entry V) → List (Entry V) → Type 0
AreCloned is_clone es copies = AllZip (λ e c. (c.lo ≡ e.lo) × (c.hi ≡ e.hi) × is_clone e.value c.value) es copies

-- a clone of the entry's value if the entry has more than one key
abbrev pub IsManyCloned : {V : Type 0} → (V → V → Type 0) → Entry V → Option V → Type 0
IsManyCloned is_clone e None = e.hi ≤ℤ e.lo
IsManyCloned is_clone e (Some v) = (e.lo <ℤ e.hi) × is_clone e.value v

-- the result of a lookup: the entry's first and last key, and a clone of its value if it has more than one key
abbrev pub IsRangeCloned : {T V : Type 0} → (T → ℤ) → (V → V → Type 0) → Option (Entry V) → Option (RangeEntry T (Option V)) → Type 0
IsRangeCloned rank is_clone o None = o ≡ None
IsRangeCloned rank is_clone o (Some r) = IsSomeAnd o (λ e. (shown_ends rank r ≡ range_in e) × IsManyCloned is_clone e r.value)
