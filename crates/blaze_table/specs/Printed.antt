-- The text of a printed set.
use Rattle.std.specs.Prelude.{ℕ, ℤ, List, [], ◌∷◌, Option, Some, codes}
use Rattle.std.specs.Fmt.{◌++?◌}
use Rattle.blaze_entries.specs.Entries.{Entry}

module _ {K : Type 0} (key_text : K → Option (List ℕ)) (of_rank : ℤ → K) where
  -- for example 1..=2, if the texts of the keys are known
  abbrev pub range_text : Entry (Unit {0}) → Option (List ℕ)
  range_text e = key_text (of_rank e.lo) ++? Some (codes "..=") ++? key_text (of_rank e.hi)

  -- the first range after `lead`, each other one after a comma and a space
  abbrev pub ranges_text : List ℕ → List (Entry (Unit {0})) → Option (List ℕ)
  ranges_text lead [] = Some []
  ranges_text lead (e ∷ es) = (Some lead ++? range_text e) ++? ranges_text (codes ", ") es

  -- the ranges, separated by a comma and a space
  abbrev pub set_text : List (Entry (Unit {0})) → Option (List ℕ)
  set_text es = ranges_text [] es
