-- The ranges between a list's ranges.
use Rattle.std.specs.Prelude.{ℤ, pos, ◌+ℤ◌, ◌-ℤ◌, int_lt, if◌then◌else◌, List, [], ◌∷◌, ◌++◌, Option, Some, None}
use Rattle.blaze_entries.specs.Entries.{Entry, entry}

-- the rank of a key, or one more than the greatest rank if the key is `None`
abbrev pub rank_or_end : {T : Type 0} → (T → ℤ) → ℤ → Option T → ℤ
rank_or_end rank high None = high +ℤ pos 1
rank_or_end rank high (Some key) = rank key

-- the keys from n to before l, as one range, or nothing if no keys are between
abbrev pub gap_before : ℤ → ℤ → List (Entry (Unit {0}))
gap_before n l = if int_lt n l then entry n (l -ℤ pos 1) tt ∷ [] else []

-- the keys from n to high that no entry contains, as ranges
abbrev pub gaps : {V : Type 0} → ℤ → ℤ → List (Entry V) → List (Entry (Unit {0}))
gaps n high [] = gap_before n (high +ℤ pos 1)
gaps n high (e ∷ es) = gap_before n e.lo ++ gaps (e.hi +ℤ pos 1) high es
