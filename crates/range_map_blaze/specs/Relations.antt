-- Relations between the keys of two lists of entries, whatever the values.
use Rattle.std.specs.Prelude.{◌≡◌, ◌⊎◌, ℤ, List, None, IsSome}
use Rattle.blaze_entries.specs.Entries.{Entry, at}

-- no key has a value in both lists: at each key at least one of the two has none
abbrev pub ShareNoKey : {A B : Type 0} → List (Entry A) → List (Entry B) → Type 0
ShareNoKey left right = (k : ℤ) → (at left k ≡ None) ⊎ (at right k ≡ None)

-- each key that has a value in the second list has one in the first
abbrev pub HasKeysOf : {A B : Type 0} → List (Entry A) → List (Entry B) → Type 0
HasKeysOf left right = (k : ℤ) → IsSome (at right k) → IsSome (at left k)
