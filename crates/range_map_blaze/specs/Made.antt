-- A map that a call makes.
use Rattle.std.specs.Prelude.{◌≡◌, List}
use Rattle.blaze_entries.specs.Counted.{CountedEntries, uncounted}
use Rattle.blaze_entries.specs.Entries.{Entry}

-- the list of its entries has the given property, and no work on it is counted yet
abbrev pub IsMade : {V : Type 0} → (List (Entry V) → Type 0) → CountedEntries V → Type 0
IsMade told map = told map.entries × (map ≡ uncounted map.entries)
