-- Equality of lists of entries.
use Rattle.blaze_entries.proofs.Words.{◌≡◌, ℤ, Bool, true, List, [], ◌∷◌, refl, ◌∙◌, sym, Decides, IsEquivalence, signed_Decides, first_so, second_so, int_eq, Entry, SameContent, SameEntries, IsRangeMap, same_entry, same_entries, ◌&&◌}
use Rattle.blaze_entries.proofs.Canonical.ListLaws.{canonical_is_unique}
use Rattle.blaze_entries.proofs.Paints.Painted.{content_as}

module _ {V : Type 0} (eq : V → V → Bool) where
  -- the test of two lists, position by position
  pub same_from_test : (L M : List (Entry V)) → same_entries eq L M ≡ true → SameEntries eq L M
  same_from_test [] [] h = tt
  same_from_test [] (f ∷ fs) h = absurd cc
  same_from_test (e ∷ es) [] h = absurd cc
  same_from_test (e ∷ es) (f ∷ fs) h =
      let here = first_so (same_entry eq e f) (same_entries eq es fs) h in
      let ends = first_so (int_eq e.lo f.lo && int_eq e.hi f.hi) (eq e.value f.value) here in (
        (signed_Decides e.lo f.lo).0 (first_so (int_eq e.lo f.lo) (int_eq e.hi f.hi) ends),
        (signed_Decides e.hi f.hi).0 (second_so (int_eq e.lo f.lo) (int_eq e.hi f.hi) ends),
        second_so (int_eq e.lo f.lo && int_eq e.hi f.hi) (eq e.value f.value) here,
        same_from_test es fs (second_so (same_entry eq e f) (same_entries eq es fs) h),
      )

  pub test_from_same : (L M : List (Entry V)) → SameEntries eq L M → same_entries eq L M ≡ true
  test_from_same [] [] s = refl
  test_from_same [] (f ∷ fs) s = absurd s
  test_from_same (e ∷ es) [] s = absurd s
  test_from_same (e ∷ es) (f ∷ fs) s = rw ((signed_Decides e.lo f.lo).1 s.0, (signed_Decides e.hi f.hi).1 s.1, s.2) (test_from_same es fs s.3)

  -- range maps are equal exactly if they have the same content
  pub content_decides : IsEquivalence eq → (low high : ℤ) (L M : List (Entry V)) (r : Bool) → r ≡ same_entries eq L M → IsRangeMap eq low high L → IsRangeMap eq low high M → Decides r (SameContent eq L M)
  content_decides laws low high L M r is l m = (
    λ h. content_as eq laws L M (same_from_test L M (sym is ∙ h)),
    λ s. is ∙ test_from_same L M (canonical_is_unique eq laws L M l.runs m.runs s),
  )
