-- Parts of a range map's list are range maps' lists.
use Rattle.blaze_entries.proofs.Words.{ℤ, Bool, List, [], ◌∷◌, ◌++◌, IsEquivalence, Entry, IsCanonical, AreKeys, IsRangeMap}
use Rattle.blaze_entries.proofs.Canonical.Runs.{canonical, one_per_run}

canonical_front : {V : Type 0} (eq : V → V → Bool) (es : List (Entry V)) (e : Entry V) → IsCanonical eq (es ++ e ∷ []) → IsCanonical eq es
canonical_front eq [] e c = tt
canonical_front eq (d ∷ []) e c = (c.0, tt, tt)
canonical_front eq (d ∷ f ∷ fs) e c = (c.0, c.1, canonical_front eq (f ∷ fs) e c.2)

keys_front : {V : Type 0} (low high : ℤ) (es : List (Entry V)) (e : Entry V) → AreKeys low high (es ++ e ∷ []) → AreKeys low high es
keys_front low high [] e a = tt
keys_front low high (d ∷ es) e a = (a.0, a.1, keys_front low high es e a.2)

module _ {V : Type 0} (eq : V → V → Bool) (laws : IsEquivalence eq) (low high : ℤ) where
  -- all but the first entry
  pub IsRangeMap-rest : (e : Entry V) (es : List (Entry V)) → IsRangeMap eq low high (e ∷ es) → IsRangeMap eq low high es
  IsRangeMap-rest e es m = record { runs = one_per_run eq laws es (canonical eq laws (e ∷ es) m.runs).2; keys = m.keys.2 }

  -- all but the last entry
  pub IsRangeMap-front : (es : List (Entry V)) (e : Entry V) → IsRangeMap eq low high (es ++ e ∷ []) → IsRangeMap eq low high es
  IsRangeMap-front es e m = record { runs = one_per_run eq laws es (canonical_front eq es e (canonical eq laws (es ++ e ∷ []) m.runs)); keys = keys_front low high es e m.keys }
