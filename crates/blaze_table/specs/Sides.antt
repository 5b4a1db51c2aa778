-- The entries on one side of a key.
use Rattle.std.specs.Prelude.{ℤ, ◌≤ℤ◌, ◌<ℤ◌, List}
use Rattle.std.specs.List.{Contains}
use Rattle.blaze_entries.specs.Entries.{Entry}

-- each entry that ends below k remains, with its very value
abbrev pub AreKeptBelow : {V : Type 0} → ℤ → List (Entry V) → List (Entry V) → Type 0
AreKeptBelow {V} k old new = (e : Entry V) → Contains old e → e.hi <ℤ k → Contains new e

-- each entry that starts at k or above remains, with its very value
abbrev pub AreKeptFrom : {V : Type 0} → ℤ → List (Entry V) → List (Entry V) → Type 0
AreKeptFrom {V} k old new = (e : Entry V) → Contains old e → k ≤ℤ e.lo → Contains new e
