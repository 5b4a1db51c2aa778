-- A list of clones equals its source, position by position.
use Rattle.blaze_entries.proofs.Words.{◌∙◌, ℕ, Bool, List, [], ◌∷◌, ◌++◌, ℤ, sym, IsEquivalence, AreCloned, Entry, SameEntries, shown_list, ClonesAreAlike, IsTable}
use Rattle.blaze_entries.proofs.Paints.Painted.{canonical_as}
use Rattle.blaze_entries.proofs.Canonical.Counted.{are_keys_as, same_keys_in}

-- the whole list equals the clones followed by the remaining entries
abbrev pub IsCopied : {T V : Type 0} → (T → ℤ) → (V → V → Bool) → List (Entry V) → List (Entry V) → List (T × T × V) → Type 0
IsCopied {T} {V} rank eq all left copy = (fs : List (Entry V)) → SameEntries eq left fs → SameEntries eq all (shown_list rank copy ++ fs)

-- clones equal their source if each cloned value does
pub same_cloned : {V : Type 0} (eq : V → V → Bool) (is_clone : V → V → Type 0) → ClonesAreAlike is_clone eq → (es copies : List (Entry V)) → AreCloned is_clone es copies → SameEntries eq es copies
same_cloned eq is_clone alike [] [] c = tt
same_cloned eq is_clone alike [] (f ∷ fs) c = elim c [ ]
same_cloned eq is_clone alike (e ∷ es) [] c = elim c [ ]
same_cloned eq is_clone alike (e ∷ es) (f ∷ fs) c = (sym c.0.0, sym c.0.1, alike e.value f.value c.0.2, same_cloned eq is_clone alike es fs c.1)

-- the clones are the list of a table, with the same number of keys
pub table_as : {V : Type 0} (eq : V → V → Bool) → IsEquivalence eq → (low high : ℤ) (n : ℕ) (es fs : List (Entry V)) → SameEntries eq es fs → IsTable eq low high n es → IsTable eq low high n fs
table_as eq laws low high n es fs s t = record {
  canonical = canonical_as eq laws es fs s t.canonical;
  are_keys = are_keys_as eq low high es fs s t.are_keys;
  counted = t.counted ∙ same_keys_in eq es fs s;
}
