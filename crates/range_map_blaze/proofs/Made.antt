-- A map that is made of a table.
use Rattle.range_map_blaze.proofs.Words.{◌≡◌, List, ◌∙◌, sym, ap, subst, CountedEntries, uncounted, Entry, IsMade}

module _ {V : Type 0} where
  -- of a list on which nothing is counted
  pub made_of : (told : List (Entry V) → Type 0) (map : CountedEntries V) (es : List (Entry V)) → map ≡ uncounted es → told es → IsMade told map
  made_of told map es p t =
      let same = ap (λ (s : CountedEntries V). s.entries) p in
      (subst told (sym same) t, p ∙ ap uncounted (sym same))
