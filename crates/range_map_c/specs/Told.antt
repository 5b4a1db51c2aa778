-- The result of a call, which is what it returns and what it writes.
use Rattle.std.specs.declared.cmp.Ordering.{Ordering}
use Rattle.std.specs.declared.cmp.Ordering.TheVariants.{Less, Equal, Greater}
use Rattle.std.specs.Prelude.{ℤ, pos, negsuc, Bool, true, false, List, [], ◌∷◌, Option, Some, None}
use Rattle.blaze_entries.specs.Entries.{Entry, entry}

-- a value, if there is one
abbrev pub told : {V : Type 0} → Bool → V → Option V
told true v = Some v
told false v = None

-- an entry, if there is one
abbrev pub told_entry : {V : Type 0} → Bool → ℤ → ℤ → V → Option (Entry V)
told_entry true lo hi v = Some (entry lo hi v)
told_entry false lo hi v = None

-- a first key, a last key and a value, as an entry
abbrev pub shown : {V : Type 0} → ℤ × ℤ × V → Entry V
shown p = entry p.0 p.1 p.2

-- the first of a list
abbrev pub first_of : {A : Type 0} → List A → Option A
first_of [] = None
first_of (x ∷ xs) = Some x

-- the last of a list
abbrev pub last_of : {A : Type 0} → List A → Option A
last_of [] = None
last_of (x ∷ []) = Some x
last_of (x ∷ y ∷ ys) = last_of (y ∷ ys)

-- the order of two maps, as a number
abbrev pub order_number : Ordering → ℤ
order_number Less = negsuc 0
order_number Equal = pos 0
order_number Greater = pos 1
