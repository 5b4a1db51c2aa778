-- The number of keys that a list of entries maps.
use Rattle.std.specs.Prelude.{ℕ, zero, suc, is_some, ◌+◌, ℤ, pos, ◌+ℤ◌, ◌-ℤ◌, if◌then◌else◌, List, [], ◌∷◌, Option}
use Rattle.blaze_int.specs.Unsigned.{nat_of}
use Rattle.blaze_entries.specs.Entries.{Entry}

-- the sum of the lengths of the ranges; for a disjoint list, the number of its keys
abbrev pub keys_in : {V : Type 0} → List (Entry V) → ℤ
keys_in [] = pos 0
keys_in (e ∷ es) = (e.hi -ℤ e.lo +ℤ pos 1) +ℤ keys_in es

-- the number of the n keys from a on that have a value
unfoldable pub mapped : {V : Type 0} → (ℤ → Option V) → ℤ → ℕ → ℕ
mapped content a zero = 0
mapped content a (suc n) = (if is_some (content a) then 1 else 0) + mapped content (a +ℤ pos 1) n

-- the number of keys from low to high that have a value
abbrev pub mapped_keys : {V : Type 0} → ℤ → ℤ → (ℤ → Option V) → ℕ
mapped_keys low high content = mapped content low (nat_of (high -ℤ low +ℤ pos 1))
