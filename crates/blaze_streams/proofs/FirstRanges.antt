-- The part of a list above a key that its first range reaches.
use Rattle.blaze_entries.proofs.Paints.Splices.{after_cuts}
use Rattle.blaze_streams.proofs.Words.{◌≡◌, ℤ, pos, ◌+ℤ◌, ◌≤ℤ◌, ◌<ℤ◌, Bool, List, [], ◌∷◌, Some, ◌∙◌, sym, subst, ap, arith, ints, int_max, by_lt_z, Entry, entry, at, at_in, IsCanonical, after, after_keeps, after_skips, canonical_after, FirstHas}

module _ {V : Type 0} where
  -- nothing remains of an empty list
  pub none_above : (k : ℤ) (L : List (Entry V)) → L ≡ [] → L ≡ after k L
  none_above k L p = p ∙ sym (ap (after k) p)

  -- a key of the first range has its value
  pub at_has : (k : ℤ) (L es : List (Entry V)) (e : Entry V) → L ≡ e ∷ es → FirstHas k (e ∷ es) → at L k ≡ Some e.value
  at_has k L es e p h = ap (λ l. at l k) p ∙ at_in e es k h.0 h.1

  -- the first range is cut
  pub first_cut : (k m : ℤ) (e : Entry V) (es : List (Entry V)) → m ≡ k +ℤ pos 1 → k <ℤ e.hi → e.lo ≤ℤ k → entry m e.hi e.value ∷ es ≡ after k (e ∷ es)
  first_cut k m e es is h l = ap (λ z. entry z e.hi e.value ∷ es) is ∙ sym (after_cuts k e es h l)

  -- the first range, which ends above the key, is cut if it starts at the key or below
  pub first_above : (k m : ℤ) (e : Entry V) (es : List (Entry V)) → m ≡ int_max (k +ℤ pos 1) e.lo → k <ℤ e.hi → entry m e.hi e.value ∷ es ≡ after k (e ∷ es)
  first_above k m e es is h = by_lt_z k e.lo
      (λ l. let same : m ≡ e.lo = grind (arith, ints, is, l) in ap (λ z. entry z e.hi e.value ∷ es) same ∙ sym (after_keeps k e es h l))
      (λ l. let same : m ≡ k +ℤ pos 1 = grind (arith, ints, is, l) in first_cut k m e es same h l)

  module _ (eq : V → V → Bool) where
    -- the first range starts above the key
    pub first_kept : (k : ℤ) (e : Entry V) (es : List (Entry V)) → IsCanonical eq (e ∷ es) → k <ℤ e.lo → e ∷ es ≡ after k (e ∷ es)
    first_kept k e es c l = sym (after_keeps k e es (omega (arith, ints, c.0)) l)

    -- the first range ends at the key
    pub first_gone : (k : ℤ) (e : Entry V) (es : List (Entry V)) → IsCanonical eq (e ∷ es) → k ≤ℤ e.hi → e.hi ≤ℤ k → es ≡ after k (e ∷ es)
    first_gone k e [] c h l = sym (after_skips k e [] l)
    first_gone k e (f ∷ fs) c h l = sym (after_skips k e (f ∷ fs) l ∙ after_keeps k f fs (omega (arith, ints, c.1.0, c.2.0)) (omega (arith, ints, c.1.0)))

    -- the part above a key is canonical
    pub part_canonical : (k : ℤ) (e : Entry V) (es L : List (Entry V)) → IsCanonical eq (e ∷ es) → L ≡ after k (e ∷ es) → IsCanonical eq L
    part_canonical k e es L c p = subst (IsCanonical eq) (sym p) (canonical_after eq k (e ∷ es) c)
