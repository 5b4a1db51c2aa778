-- Pairs that lie inside entries with equal values.
use Rattle.range_map_blaze.proofs.Words.{◌≡◌, ℤ, pos, ◌+ℤ◌, ◌-ℤ◌, ◌≤ℤ◌, ◌⊎◌, Bool, true, List, [], ◌∷◌, ◌++◌, Some, refl, ◌∙◌, subst, arith, inl, inr, IsEquivalence, ints, by_lt_z, same_along, Entry, at, SameOption, IsCanonical, IsRangeMap, IsInside, inside_at, at_before, at_in, at_over, canonical, canonical_part, breaks, AreInside}

module _ {V : Type 0} (eq : V → V → Bool) where
  pub inside_parts : (ps qs es : List (Entry V)) → AreInside eq (ps ++ qs) es → AreInside eq ps es × AreInside eq qs es
  inside_parts [] qs es i = (tt, i)
  inside_parts (p ∷ ps) qs es i = let r = inside_parts ps qs es i.1 in ((i.0, r.0), r.1)

  module _ (laws : IsEquivalence eq) where
    -- an entry of a range map has a key
    pub with_key : (low high : ℤ) (done : List (Entry V)) (e : Entry V) (rest all : List (Entry V)) → all ≡ done ++ e ∷ rest → IsRangeMap eq low high all → e.lo ≤ℤ e.hi
    with_key low high done e rest all p r = (canonical_part eq done (e ∷ rest) (subst (IsCanonical eq) p (canonical eq laws all r.runs))).0

    -- an equal value serves as well
    pub inside_equal : (l h : ℤ) (v w : V) (es : List (Entry V)) → eq v w ≡ true → IsInside eq l h v es → IsInside eq l h w es
    inside_equal l h v w [] q i = i
    inside_equal l h v w (e ∷ es) q (inl i) = inl (i.0, i.1, laws.congr e.value v w i.2 ∙ q)
    inside_equal l h v w (e ∷ es) q (inr i) = inr (inside_equal l h v w es q i)

    -- a canonical list that has equal values on all keys of a range has them in one entry
    pub inside_of : (l h : ℤ) (v : V) (es : List (Entry V)) → IsCanonical eq es → l ≤ℤ h → ((k : ℤ) → l ≤ℤ k → k ≤ℤ h → SameOption eq (at es k) (Some v)) → IsInside eq l h v es
    inside_of l h v [] c w s = s l (omega (arith, ints)) w
    inside_of l h v (e ∷ es) c w s = by_lt_z e.hi l
        (λ over. inr (inside_of l h v es c.2 w (λ k a b. same_along eq (at_over e es k (omega (arith, ints))) refl (s k a b))))
        (λ reach. here reach (by_lt_z l e.lo (λ q. absurd (same_along eq (at_before eq (e ∷ es) (e.lo -ℤ pos 1) l c (omega (arith, ints)) (omega (arith, ints))) refl (s l (omega (arith, ints)) w))) (λ q. q)))
      where
        here : l ≤ℤ e.hi → e.lo ≤ℤ l → IsInside eq l h v (e ∷ es)
        here reach low =
            let same : eq e.value v ≡ true = same_along eq (at_in e es l low reach) refl (s l (omega (arith, ints)) w) in
            by_lt_z e.hi h
            (λ more. absurd (breaks eq laws e es v c same (same_along eq (at_over e es (e.hi +ℤ pos 1) (omega (arith, ints))) refl (s (e.hi +ℤ pos 1) (omega (arith, ints)) (omega (arith, ints))))))
            (λ within. inl (low, within, same))

    -- what lies inside on a range and on another that goes on where it ends lies inside on both
    pub inside_both : (l h m n : ℤ) (v w : V) (es : List (Entry V)) → IsCanonical eq es → l ≤ℤ h → m ≤ℤ n → m ≤ℤ (h +ℤ pos 1) → l ≤ℤ (n +ℤ pos 1) → eq v w ≡ true
        → IsInside eq l h v es → IsInside eq m n w es → (a b : ℤ) → a ≤ℤ b → ((k : ℤ) → a ≤ℤ k → k ≤ℤ b → ((l ≤ℤ k) × (k ≤ℤ h)) ⊎ ((m ≤ℤ k) × (k ≤ℤ n))) → IsInside eq a b v es
    inside_both l h m n v w es c o q s t j i f a b u parts = inside_of a b v es c u (λ k x y. either k (parts k x y))
      where
        back : eq w v ≡ true
        back = laws.symm w v ∙ j

        either : (k : ℤ) → ((l ≤ℤ k) × (k ≤ℤ h)) ⊎ ((m ≤ℤ k) × (k ≤ℤ n)) → SameOption eq (at es k) (Some v)
        either k (inl x) = inside_at eq l h v es k c i x.0 x.1
        either k (inr x) = inside_at eq m n v es k c (inside_equal m n w v es back f) x.0 x.1
