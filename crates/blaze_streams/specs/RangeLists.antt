-- Lists of ranges with carriers, seen as entries.
use Rattle.std.specs.Prelude.{ℤ, ◌≤ℤ◌, List, map}
use Rattle.std.specs.declared.ops.RangeInclusive.{RangeInclusive}
use Rattle.blaze_entries.specs.Entries.{Entry}
use Rattle.blaze_streams.specs.Ranges.{shown_range}

-- a list of ranges with carriers, as entries
abbrev pub shown_ranges : {T R V : Type 0} → (T → ℤ) → (R → V) → List (RangeInclusive T × R) → List (Entry V)
shown_ranges rank shown items = map (shown_range rank shown) items

-- the ends of the range are keys
abbrev pub IsWithin : {V : Type 0} → ℤ → ℤ → Entry V → Type 0
IsWithin low high e = (low ≤ℤ e.lo) × (e.hi ≤ℤ high)
