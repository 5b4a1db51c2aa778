-- The printed text of a range map.
use Rattle.std.specs.Prelude.{ℕ, ℤ, List, [], ◌∷◌, Option, Some, codes}
use Rattle.std.specs.Fmt.{◌++?◌}
use Rattle.blaze_entries.specs.Entries.{Entry}

module _ {K V : Type 0} (key_text : K → Option (List ℕ)) (of_rank : ℤ → K) (value_text : V → Option (List ℕ)) where
  -- `(1..=2, "a")`, where the texts of keys and value are known
  abbrev pub entry_text : Entry V → Option (List ℕ)
  entry_text e = Some (codes "(") ++? key_text (of_rank e.lo) ++? Some (codes "..=") ++? key_text (of_rank e.hi) ++? Some (codes ", ") ++? value_text e.value ++? Some (codes ")")

  -- the first entry after lead, each other after a comma and a space
  abbrev pub entries_text : List ℕ → List (Entry V) → Option (List ℕ)
  entries_text lead [] = Some []
  entries_text lead (e ∷ es) = (Some lead ++? entry_text e) ++? entries_text (codes ", ") es

  -- the entries, separated by a comma and a space
  abbrev pub map_text : List (Entry V) → Option (List ℕ)
  map_text es = entries_text [] es
