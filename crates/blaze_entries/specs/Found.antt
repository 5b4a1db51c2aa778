-- The result of a lookup: an entry's ends, and whether its value equals a given value.
use Rattle.std.specs.Prelude.{◌≡◌, ℤ, Bool, false, Option, Some, None}
use Rattle.blaze_entries.specs.Entries.{Entry}
use Rattle.blaze_entries.specs.declared.range_entry.RangeEntry.{RangeEntry}

-- whether a value equals the given one; no value does if none is given
abbrev pub is_sought : {V : Type 0} → (V → V → Bool) → Option V → V → Bool
is_sought eq None = λ w. false
is_sought eq (Some v) = λ w. eq w v

-- the result of a lookup that returns the entry, by a test of its value
abbrev pub found_in : {V : Type 0} → (V → Bool) → Entry V → ℤ × ℤ × Bool
found_in test e = (e.lo, e.hi, test e.value)

-- the ends in a result, by rank
abbrev pub shown_ends : {T X : Type 0} → (T → ℤ) → RangeEntry T X → ℤ × ℤ
shown_ends rank f = (rank f.start, rank f.end)

-- a result, by rank
abbrev pub shown_found : {T : Type 0} → (T → ℤ) → RangeEntry T Bool → ℤ × ℤ × Bool
shown_found rank f = (rank f.start, rank f.end, f.value)

-- the result of a lookup that returns the entry, with the entry's value
pub record IsFoundAt {T V : Type 0} (rank : T → ℤ) (test : V → Bool) (f : RangeEntry T Bool) (w : V) (e : Entry V) : Type 0 where
  pub found : shown_found rank f ≡ found_in test e
  pub value : w ≡ e.value

-- an entry's ends
abbrev pub range_in : {V : Type 0} → Entry V → ℤ × ℤ
range_in e = (e.lo, e.hi)
