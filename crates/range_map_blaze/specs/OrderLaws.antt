-- Equal lists tie in the order of maps, and only these.
use Rattle.blaze_int.specs.Unsigned.{nat_of}
use Rattle.std.specs.Prelude.{◌≡◌, ℕ, zero, suc, ℤ, pos, ◌+ℤ◌, ◌-ℤ◌, Bool, true, ◌&&◌, List, [], ◌∷◌, ◌++◌, refl}
use Rattle.std.proofs.Common.{◌∙◌, sym, ap}
use Rattle.std.specs.declared.cmp.Ordering.{Ordering}
use Rattle.std.specs.declared.cmp.Ordering.TheVariants.{Less, Equal, Greater}
use Rattle.std.specs.Ordering.{int_cmp, int_eq, is_eq, ordering_then}
use Rattle.std.specs.Cmp.{IsTotalOrder, both_tied, both_ways, Equal-is, first_so, second_so, int_cmp_total, on_total, signed_Decides, then_total, tied_itself}
use Rattle.std.specs.Cmp.Lexicographic.{slice_cmp, lists_ties, lists_total}
use Rattle.blaze_entries.specs.Entries.{Entry}
use Rattle.blaze_entries.specs.Equality.{same_entry, same_entries}
use Rattle.blaze_entries.specs.Pairs.{pairs_from}
use Rattle.range_map_blaze.specs.Order.{ranked_pairs, pair_cmp, pairs_cmp, entry_cmp, map_cmp}

second_tied : (a b : Ordering) → is_eq (ordering_then a b) ≡ true → is_eq b ≡ true
second_tied Less b h = absurd cc
second_tied Equal b h = h
second_tied Greater b h = absurd cc

module _ {V : Type 0} (value : V → V → Ordering) where
  -- n keys from a on, with values that tie, before two lists
  pub tied_keys : (a : ℤ) (n : ℕ) (u v : V) (xs ys : List (ℤ × V)) → value u v ≡ Equal → slice_cmp (pair_cmp value) (pairs_from (λ k. k) a n u ++ xs) (pairs_from (λ k. k) a n v ++ ys) ≡ slice_cmp (pair_cmp value) xs ys
  tied_keys a zero u v xs ys p = refl
  tied_keys a (suc n) u v xs ys p =
      let rest = slice_cmp (pair_cmp value) (pairs_from (λ k. k) (a +ℤ pos 1) n u ++ xs) (pairs_from (λ k. k) (a +ℤ pos 1) n v ++ ys) in
      ap (λ o. ordering_then (ordering_then o (value u v)) rest) (tied_itself int_cmp_total a) ∙ (ap (λ o. ordering_then o rest) p ∙ tied_keys (a +ℤ pos 1) n u v xs ys p)

  module _ (eq : V → V → Bool) (ties : (x y : V) → eq x y ≡ is_eq (value x y)) where
    -- the pairs of equal lists tie
    pub equal_pairs_tie : (es fs : List (Entry V)) → same_entries eq es fs ≡ true → pairs_cmp value es fs ≡ Equal
    equal_pairs_tie [] [] h = refl
    equal_pairs_tie [] (f ∷ fs) h = absurd cc
    equal_pairs_tie (e ∷ es) [] h = absurd cc
    equal_pairs_tie (e ∷ es) (f ∷ fs) h =
        let here = first_so (same_entry eq e f) (same_entries eq es fs) h in
        let ends = first_so (int_eq e.lo f.lo && int_eq e.hi f.hi) (eq e.value f.value) here in
        let lo = (signed_Decides e.lo f.lo).0 (first_so (int_eq e.lo f.lo) (int_eq e.hi f.hi) ends) in
        let hi = (signed_Decides e.hi f.hi).0 (second_so (int_eq e.lo f.lo) (int_eq e.hi f.hi) ends) in
        let alike = second_so (int_eq e.lo f.lo && int_eq e.hi f.hi) (eq e.value f.value) here in
        let tie = (Equal-is (value e.value f.value)).0 (sym (ties e.value f.value) ∙ alike) in
        ap (λ l. slice_cmp (pair_cmp value) (ranked_pairs (e ∷ es)) (pairs_from (λ k. k) l (nat_of (f.hi -ℤ l +ℤ pos 1)) f.value ++ ranked_pairs fs)) (sym lo)
        ∙ (ap (λ b. slice_cmp (pair_cmp value) (ranked_pairs (e ∷ es)) (pairs_from (λ k. k) e.lo (nat_of (b -ℤ e.lo +ℤ pos 1)) f.value ++ ranked_pairs fs)) (sym hi)
        ∙ (tied_keys e.lo (nat_of (e.hi -ℤ e.lo +ℤ pos 1)) e.value f.value (ranked_pairs es) (ranked_pairs fs) tie
        ∙ equal_pairs_tie es fs (second_so (same_entry eq e f) (same_entries eq es fs) h)))

    -- lists are equal where their entries tie
    pub equal_entries_tie : (es fs : List (Entry V)) → same_entries eq es fs ≡ is_eq (slice_cmp (entry_cmp value) es fs)
    equal_entries_tie es fs = lists_ties (entry_cmp value) (λ e f.
        both_tied _ _ (ordering_then (int_cmp e.lo f.lo) (int_cmp e.hi f.hi)) (value e.value f.value) (both_tied _ _ (int_cmp e.lo f.lo) (int_cmp e.hi f.hi) refl refl) (ties e.value f.value)) es fs

-- `==` and the order of maps agree
pub equal_maps_tie : {V : Type 0} (eq : V → V → Bool) (value : V → V → Ordering) → ((x y : V) → eq x y ≡ is_eq (value x y)) → (es fs : List (Entry V)) → same_entries eq es fs ≡ is_eq (map_cmp value es fs)
equal_maps_tie eq value ties es fs =
    let entries = slice_cmp (entry_cmp value) es fs in
    both_ways (same_entries eq es fs) (is_eq (map_cmp value es fs))
    (λ h. ap (λ o. is_eq (ordering_then o entries)) (equal_pairs_tie value eq ties es fs h) ∙ (sym (equal_entries_tie value eq ties es fs) ∙ h))
    (λ h. equal_entries_tie value eq ties es fs ∙ second_tied (pairs_cmp value es fs) entries h)

-- the order of maps is total where that of the values is
pub map_cmp_total : {V : Type 0} (value : V → V → Ordering) → IsTotalOrder value → IsTotalOrder (map_cmp value)
map_cmp_total {V} value total =
    then_total (on_total ranked_pairs (lists_total (then_total (on_total (λ (p : ℤ × V). p.0) int_cmp_total) (on_total (λ (p : ℤ × V). p.1) total))))
    (lists_total (then_total (then_total (on_total (λ (e : Entry V). e.lo) int_cmp_total) (on_total (λ (e : Entry V). e.hi) int_cmp_total)) (on_total (λ (e : Entry V). e.value) total)))
