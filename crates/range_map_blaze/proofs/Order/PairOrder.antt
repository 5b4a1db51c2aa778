-- How two lists compare from their first entries on.
use Rattle.range_map_blaze.proofs.Words.{same_value, nat_of, ◌≡◌, ◌+◌, ◌≤◌, ℤ, pos, ◌+ℤ◌, ◌-ℤ◌, ◌≤ℤ◌, Bool, List, [], ◌∷◌, ◌++◌, length, Some, None, true, false, refl, ◌∙◌, sym, ap, subst, arith, append_assoc, inl, inr, ⊎_elim, ◌⊎◌, ints, by_lt_z, Ordering, Less, Equal, Greater, slice_get, int_cmp, is_eq, is_ne, ordering_then, signed_Decides, slice_cmp, nat_of-pos, IsCanonical, Entry, pairs_from, int_min, after, nat_of-next, pairs_append, after_whole, after_cuts, Reaches, ranked_pairs, pair_cmp, pairs_cmp, first_cmp, IsComparedOn, tied_keys}

decided : (o p : Ordering) → (o ≡ Equal → ⊥) → ordering_then o p ≡ o
decided Less p n = refl
decided Equal p n = absurd (n refl)
decided Greater p n = refl

pub both_Equal : (o p : Ordering) → ordering_then o p ≡ Equal → (o ≡ Equal) × (p ≡ Equal)
both_Equal Less p h = absurd cc
both_Equal Equal p h = (refl, h)
both_Equal Greater p h = absurd cc

pub not_Equal : (o : Ordering) (b : Bool) → b ≡ is_ne o → b ≡ true → o ≡ Equal → ⊥
not_Equal o b p q e = absurd (let n = ap is_ne e in cc)

pub is_Equal : (o : Ordering) (b : Bool) → b ≡ is_ne o → b ≡ false → o ≡ Equal
is_Equal Less b p q = absurd cc
is_Equal Equal b p q = refl
is_Equal Greater b p q = absurd cc

module _ {V : Type 0} where
  first_pairs : (e : Entry V) (es : List (Entry V)) → e.lo ≤ℤ e.hi → ranked_pairs (e ∷ es) ≡ (e.lo, e.value) ∷ (pairs_from (λ k. k) (e.lo +ℤ pos 1) (nat_of (e.hi -ℤ e.lo)) e.value ++ ranked_pairs es)
  first_pairs e es h = ap (λ n. pairs_from (λ k. k) e.lo n e.value ++ ranked_pairs es) (nat_of-next (e.hi -ℤ e.lo) (omega (arith, ints)))

  module _ (eq : V → V → Bool) where
    -- the keys of the first entry up to m, and what is left after them
    cut_pairs : (m : ℤ) (e : Entry V) (es : List (Entry V)) → IsCanonical eq (e ∷ es) → e.lo ≤ℤ m → m ≤ℤ e.hi
        → ranked_pairs (e ∷ es) ≡ pairs_from (λ k. k) e.lo (nat_of (m -ℤ e.lo +ℤ pos 1)) e.value ++ ranked_pairs (after m (e ∷ es))
    cut_pairs m e es c l h = by_lt_z m e.hi
        (λ s.
        let n = nat_of (m -ℤ e.lo +ℤ pos 1) in
        let r = nat_of (e.hi -ℤ (m +ℤ pos 1) +ℤ pos 1) in
        let is_n : pos n ≡ m -ℤ e.lo +ℤ pos 1 = nat_of-pos (m -ℤ e.lo +ℤ pos 1) (omega (arith, ints)) in
        let is_r : pos r ≡ e.hi -ℤ (m +ℤ pos 1) +ℤ pos 1 = nat_of-pos (e.hi -ℤ (m +ℤ pos 1) +ℤ pos 1) (omega (arith, ints)) in
        let total : e.hi -ℤ e.lo +ℤ pos 1 ≡ pos (r + n) = omega (arith, ints, is_n, is_r) in
        let next : e.lo +ℤ pos n ≡ m +ℤ pos 1 = omega (arith, ints, is_n) in
        let taken = pairs_from (λ k. k) e.lo n e.value in
        ap (λ k. pairs_from (λ j. j) e.lo k e.value ++ ranked_pairs es) (ap nat_of total)
        ∙ (ap (λ t. t ++ ranked_pairs es) (pairs_append (λ k. k) e.lo n r e.value ∙ ap (λ b. taken ++ pairs_from (λ k. k) b r e.value) next)
        ∙ (append_assoc taken (pairs_from (λ k. k) (m +ℤ pos 1) r e.value) (ranked_pairs es)
        ∙ ap (λ L. taken ++ ranked_pairs L) (sym (after_cuts m e es s l)))))
        (λ s.
        let is : e.hi ≡ m = omega (arith, ints) in
        ap (λ b. pairs_from (λ k. k) e.lo (nat_of (b -ℤ e.lo +ℤ pos 1)) e.value ++ ranked_pairs es) is
        ∙ ap (λ L. pairs_from (λ k. k) e.lo (nat_of (m -ℤ e.lo +ℤ pos 1)) e.value ++ ranked_pairs L) (sym (after_whole eq m e es c s h)))

    kept : (m : ℤ) (e : Entry V) (es : List (Entry V)) → IsCanonical eq (e ∷ es) → e.lo ≤ℤ m → m ≤ℤ e.hi → length (after m (e ∷ es)) ≤ length es + 1
    kept m e es c l h = by_lt_z m e.hi
        (λ s. rw (after_cuts m e es s l) (omega arith))
        (λ s. rw (after_whole eq m e es c s h) (omega arith))

    gone : (m : ℤ) (e : Entry V) (es : List (Entry V)) → IsCanonical eq (e ∷ es) → m ≡ e.hi → length (after m (e ∷ es)) ≡ length es
    gone m e es c p = ap length (after_whole eq m e es c (omega (arith, ints)) (omega (arith, ints)))

    module _ (value : V → V → Ordering) where
      -- a list at its end is a beginning of one that is not
      pub end_is_less : (L : List (Entry V)) (f : Entry V) (fs : List (Entry V)) → L ≡ [] → IsCanonical eq (f ∷ fs) → pairs_cmp value L (f ∷ fs) ≡ Less
      end_is_less L f fs p d = ap (λ l. pairs_cmp value l (f ∷ fs)) p ∙ ap (λ ps. slice_cmp (pair_cmp value) [] ps) (first_pairs f fs d.0)

      pub end_is_greater : (e : Entry V) (es M : List (Entry V)) → M ≡ [] → IsCanonical eq (e ∷ es) → pairs_cmp value (e ∷ es) M ≡ Greater
      end_is_greater e es M p c = ap (λ l. pairs_cmp value (e ∷ es) l) p ∙ ap (λ ps. slice_cmp (pair_cmp value) ps []) (first_pairs e es c.0)

      module _ (e f : Entry V) (es fs : List (Entry V)) (c : IsCanonical eq (e ∷ es)) (d : IsCanonical eq (f ∷ fs)) where
        -- first pairs that differ decide
        pub first_decides : (o : Ordering) → o ≡ first_cmp value e f → (o ≡ Equal → ⊥) → o ≡ pairs_cmp value (e ∷ es) (f ∷ fs)
        first_decides o p n =
            let rest = slice_cmp (pair_cmp value) (pairs_from (λ k. k) (e.lo +ℤ pos 1) (nat_of (e.hi -ℤ e.lo)) e.value ++ ranked_pairs es) (pairs_from (λ k. k) (f.lo +ℤ pos 1) (nat_of (f.hi -ℤ f.lo)) f.value ++ ranked_pairs fs) in
            sym (ap (λ ps. slice_cmp (pair_cmp value) ps (ranked_pairs (f ∷ fs))) (first_pairs e es c.0)
            ∙ (ap (λ qs. slice_cmp (pair_cmp value) ((e.lo, e.value) ∷ (pairs_from (λ k. k) (e.lo +ℤ pos 1) (nat_of (e.hi -ℤ e.lo)) e.value ++ ranked_pairs es)) qs) (first_pairs f fs d.0)
            ∙ (ap (λ q. ordering_then q rest) (sym p) ∙ decided o rest n)))

        on_to : (m : ℤ) → first_cmp value e f ≡ Equal → e.lo ≤ℤ m → m ≤ℤ e.hi → m ≤ℤ f.hi → (m ≡ e.hi) ⊎ (m ≡ f.hi) → IsComparedOn value (e ∷ es) (f ∷ fs) (after m (e ∷ es)) (after m (f ∷ fs))
        on_to m p l h k end =
            let ties = both_Equal (int_cmp e.lo f.lo) (value e.value f.value) p in
            let lo : e.lo ≡ f.lo = (signed_Decides e.lo f.lo).0 (ap is_eq ties.0) in
            let n = nat_of (m -ℤ e.lo +ℤ pos 1) in
            let other_from : f.lo ≤ℤ m = omega (arith, ints) in
            let left_kept = kept m e es c l h in
            let other_kept = kept m f fs d other_from k in
            let others = cut_pairs m f fs d other_from k ∙ ap (λ b. pairs_from (λ j. j) b (nat_of (m -ℤ b +ℤ pos 1)) f.value ++ ranked_pairs (after m (f ∷ fs))) (sym lo) in
            record {
              order =
                  ap (λ ps. slice_cmp (pair_cmp value) ps (ranked_pairs (f ∷ fs))) (cut_pairs m e es c l h)
                  ∙ (ap (λ qs. slice_cmp (pair_cmp value) (pairs_from (λ j. j) e.lo n e.value ++ ranked_pairs (after m (e ∷ es))) qs) others
                  ∙ tied_keys value e.lo n e.value f.value (ranked_pairs (after m (e ∷ es))) (ranked_pairs (after m (f ∷ fs))) ties.1);
              fewer = ⊎_elim (λ q. omega (arith, other_kept, gone m e es c q)) (λ q. omega (arith, left_kept, gone m f fs d q)) end;
            }

        -- first pairs that tie go, up to the end of the shorter entry
        pub compared_on : first_cmp value e f ≡ Equal → IsComparedOn value (e ∷ es) (f ∷ fs) (after (int_min f.hi e.hi) (e ∷ es)) (after (int_min f.hi e.hi) (f ∷ fs))
        compared_on p =
            let ties = both_Equal (int_cmp e.lo f.lo) (value e.value f.value) p in
            let lo : e.lo ≡ f.lo = (signed_Decides e.lo f.lo).0 (ap is_eq ties.0) in
            by_lt_z e.hi f.hi
            (λ l.
            let is : int_min f.hi e.hi ≡ e.hi = grind (arith, ints) in
            subst (λ m. IsComparedOn value (e ∷ es) (f ∷ fs) (after m (e ∷ es)) (after m (f ∷ fs))) (sym is) (on_to e.hi p c.0 (omega (arith, ints)) (omega (arith, ints)) (inl refl)))
            (λ l.
            let is : int_min f.hi e.hi ≡ f.hi = grind (arith, ints) in
            subst (λ m. IsComparedOn value (e ∷ es) (f ∷ fs) (after m (e ∷ es)) (after m (f ∷ fs))) (sym is) (on_to f.hi p (omega (arith, ints, d.0)) l (omega (arith, ints)) (inr refl)))

      -- ---- the same by what the first entries are

      pub both_at_end : (L M : List (Entry V)) → None ≡ slice_get L 0 → None ≡ slice_get M 0 → Equal ≡ pairs_cmp value L M
      both_at_end [] [] p q = refl
      both_at_end [] (f ∷ fs) p q = absurd cc
      both_at_end (e ∷ es) M p q = absurd cc

      pub left_at_end : (L M : List (Entry V)) (f : Entry V) → None ≡ slice_get L 0 → Some f ≡ slice_get M 0 → IsCanonical eq M → Less ≡ pairs_cmp value L M
      left_at_end [] [] f p q d = absurd cc
      left_at_end [] (g ∷ gs) f p q d = sym (end_is_less [] g gs refl d)
      left_at_end (e ∷ es) M f p q d = absurd cc

      pub other_at_end : (L M : List (Entry V)) (e : Entry V) → Some e ≡ slice_get L 0 → None ≡ slice_get M 0 → IsCanonical eq L → Greater ≡ pairs_cmp value L M
      other_at_end [] M e p q c = absurd cc
      other_at_end (g ∷ gs) [] e p q c = sym (end_is_greater g gs [] refl c)
      other_at_end (g ∷ gs) (f ∷ fs) e p q c = absurd cc

      pub decided_at_first : (L M : List (Entry V)) (e f : Entry V) → Some e ≡ slice_get L 0 → Some f ≡ slice_get M 0 → IsCanonical eq L → IsCanonical eq M → (o : Ordering) → o ≡ first_cmp value e f → (o ≡ Equal → ⊥) → o ≡ pairs_cmp value L M
      decided_at_first [] M e f p q c d o r n = absurd cc
      decided_at_first (x ∷ xs) [] e f p q c d o r n = absurd cc
      decided_at_first (x ∷ xs) (y ∷ ys) e f p q c d o r n = first_decides x y xs ys c d o (r ∙ (ap (λ z. first_cmp value z f) (same_value e x p) ∙ ap (λ z. first_cmp value x z) (same_value f y q))) n

      pub compared_after : (L M : List (Entry V)) (e f : Entry V) → Some e ≡ slice_get L 0 → Some f ≡ slice_get M 0 → IsCanonical eq L → IsCanonical eq M → first_cmp value e f ≡ Equal → IsComparedOn value L M (after (int_min f.hi e.hi) L) (after (int_min f.hi e.hi) M)
      compared_after [] M e f p q c d r = absurd cc
      compared_after (x ∷ xs) [] e f p q c d r = absurd cc
      compared_after (x ∷ xs) (y ∷ ys) e f p q c d r =
          let left = same_value e x p in
          let other = same_value f y q in
          let tied : first_cmp value x y ≡ Equal = ap (λ z. first_cmp value x z) (sym other) ∙ (ap (λ z. first_cmp value z f) (sym left) ∙ r) in
          let L : List (Entry V) = x ∷ xs in
          let M : List (Entry V) = y ∷ ys in
          subst (λ (z : Entry V). IsComparedOn value L M (after (int_min f.hi z.hi) L) (after (int_min f.hi z.hi) M)) (sym left)
          (subst (λ (z : Entry V). IsComparedOn value L M (after (int_min z.hi x.hi) L) (after (int_min z.hi x.hi) M)) (sym other) (compared_on x y xs ys c d tied))

  pub reaches_first : (L : List (Entry V)) (e : Entry V) (m : ℤ) → Some e ≡ slice_get L 0 → m ≤ℤ e.hi → Reaches m L
  reaches_first [] e m p h = tt
  reaches_first (x ∷ xs) e m p h = subst (λ (z : Entry V). m ≤ℤ z.hi) (same_value e x p) h

pub earlier_left : (a b : ℤ) → int_min b a ≤ℤ a
earlier_left a b = grind (arith, ints)

pub earlier_right : (a b : ℤ) → int_min b a ≤ℤ b
earlier_right a b = grind (arith, ints)
