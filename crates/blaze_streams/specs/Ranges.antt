-- Ranges with carriers, seen as entries.
use Rattle.std.specs.Prelude.{ℤ}
use Rattle.std.specs.declared.ops.RangeInclusive.{RangeInclusive}
use Rattle.std.specs.Range.{range_inclusive_start, range_inclusive_end}
use Rattle.blaze_entries.specs.Entries.{Entry}

-- a range and its carrier, as an entry
abbrev pub shown_range : {T R V : Type 0} → (T → ℤ) → (R → V) → RangeInclusive T × R → Entry V
shown_range rank shown p = record { lo = rank (range_inclusive_start p.0); hi = rank (range_inclusive_end p.0); value = shown p.1 }
