-- The number of the entries' keys that are in a range.
use Rattle.std.specs.Prelude.{ℤ, pos, ◌+ℤ◌, ◌-ℤ◌, int_le, if◌then◌else◌, List, [], ◌∷◌}
use Rattle.std.specs.Int.{int_max, int_min}
use Rattle.blaze_entries.specs.Entries.{Entry}

-- the number of keys that are both from l to h and from a to b
abbrev pub shared_count : ℤ → ℤ → ℤ → ℤ → ℤ
shared_count l h a b = if int_le (int_max l a) (int_min h b) then (int_min h b -ℤ int_max l a) +ℤ pos 1 else pos 0

-- the number of the entry's keys from l to h
abbrev pub overlap : {V : Type 0} → ℤ → ℤ → Entry V → ℤ
overlap l h e = shared_count l h e.lo e.hi

-- the number of the entries' keys from l to h
abbrev pub covered_keys : {V : Type 0} → ℤ → ℤ → List (Entry V) → ℤ
covered_keys l h [] = pos 0
covered_keys l h (e ∷ es) = overlap l h e +ℤ covered_keys l h es
