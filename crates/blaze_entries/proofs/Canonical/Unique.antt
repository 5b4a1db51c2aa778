-- Two canonical lists with the same content have the same ranges and equal values.
use Rattle.blaze_entries.proofs.Words.{◌≡◌, pos, ◌+ℤ◌, ◌-ℤ◌, ◌≤ℤ◌, Bool, true, List, [], ◌∷◌, Some, None, refl, sym, arith, ints, by_lt_z, IsEquivalence, Entry, at, SameOption, SameContent, SameEntries, IsCanonical}
use Rattle.blaze_entries.proofs.Alike.{same_along, same_back}
use Rattle.blaze_entries.proofs.Canonical.Lookup.{IsAbove-from_apart, at_in, at_over, at_before}

module _ {V : Type 0} (eq : V → V → Bool) where
  -- the first entry of one list starts no later than that of the other
  starts : (e f : Entry V) (es fs : List (Entry V)) → IsCanonical eq (e ∷ es) → IsCanonical eq (f ∷ fs) → SameContent eq (e ∷ es) (f ∷ fs) → f.lo ≤ℤ e.lo
  starts e f es fs c d s = by_lt_z e.lo f.lo
      (λ l. absurd (same_along eq (at_in e es e.lo (omega (arith, ints)) c.0) (at_before eq (f ∷ fs) (f.lo -ℤ pos 1) e.lo d (omega (arith, ints)) (omega (arith, ints))) (s e.lo)))
      (λ h. h)

  module _ (laws : IsEquivalence eq) where
    pub back : (L M : List (Entry V)) → SameContent eq L M → SameContent eq M L
    back L M s k = same_back eq laws (at L k) (at M k) (s k)

    -- the values of the first entries are equal
    values : (e f : Entry V) (es fs : List (Entry V)) → IsCanonical eq (e ∷ es) → IsCanonical eq (f ∷ fs) → e.lo ≡ f.lo → SameContent eq (e ∷ es) (f ∷ fs) → eq e.value f.value ≡ true
    values e f es fs c d p s = same_along eq (at_in e es e.lo (omega (arith, ints)) c.0) (at_in f fs e.lo (omega (arith, ints)) (omega (arith, ints, d.0))) (s e.lo)

    -- right above a range, the content has no value equal to the range's
    pub breaks : (e : Entry V) (es : List (Entry V)) (w : V) → IsCanonical eq (e ∷ es) → eq e.value w ≡ true → SameOption eq (at es (e.hi +ℤ pos 1)) (Some w) → ⊥
    breaks e [] w c v s = s
    breaks e (f ∷ fs) w c v s = by_lt_z (e.hi +ℤ pos 1) f.lo
        (λ l. same_along eq (at_before eq (f ∷ fs) (f.lo -ℤ pos 1) (e.hi +ℤ pos 1) c.2 (omega (arith, ints)) (omega (arith, ints))) refl s)
        (λ h. let g : f.lo ≡ e.hi +ℤ pos 1 = omega (arith, ints, c.1.0) in
        let m : eq f.value w ≡ true = same_along eq (at_in f fs (e.hi +ℤ pos 1) (omega (arith, ints)) (omega (arith, ints, c.2.0))) refl s in
        let n = c.1.1 g in
        let t = laws.congr e.value w f.value v in
        let u = laws.symm f.value w in
        let r = laws.symm e.value f.value in
        grind (arith, n, t, u, r, m))

    ends : (e f : Entry V) (es fs : List (Entry V)) → IsCanonical eq (e ∷ es) → IsCanonical eq (f ∷ fs) → e.lo ≡ f.lo → SameContent eq (e ∷ es) (f ∷ fs) → f.hi ≤ℤ e.hi
    ends e f es fs c d p s = by_lt_z e.hi f.hi
        (λ l. absurd (breaks e es f.value c (values e f es fs c d p s)
        (same_along eq (at_over e es (e.hi +ℤ pos 1) (omega (arith, ints))) (at_in f fs (e.hi +ℤ pos 1) (omega (arith, ints, c.0)) (omega (arith, ints))) (s (e.hi +ℤ pos 1)))))
        (λ h. h)

    tails : (e f : Entry V) (es fs : List (Entry V)) → IsCanonical eq (e ∷ es) → IsCanonical eq (f ∷ fs) → e.hi ≡ f.hi → SameContent eq (e ∷ es) (f ∷ fs) → SameContent eq es fs
    tails e f es fs c d p s k = by_lt_z e.hi k
        (λ l. same_along eq (at_over e es k l) (at_over f fs k (omega (arith, ints))) (s k))
        (λ h. same_along eq (sym (at_before eq es e.hi k c.2 (IsAbove-from_apart eq e es c.1) h)) (sym (at_before eq fs f.hi k d.2 (IsAbove-from_apart eq f fs d.1) (omega (arith, ints)))) tt)

    pub unique : (L M : List (Entry V)) → IsCanonical eq L → IsCanonical eq M → SameContent eq L M → SameEntries eq L M
    unique [] [] c d s = tt
    unique [] (f ∷ fs) c d s = same_along eq {a = None} refl (at_in f fs f.lo (omega (arith, ints)) d.0) (s f.lo)
    unique (e ∷ es) [] c d s = same_along eq {b = None} (at_in e es e.lo (omega (arith, ints)) c.0) refl (s e.lo)
    unique (e ∷ es) (f ∷ fs) c d s =
        let b = back (e ∷ es) (f ∷ fs) s in
        let f_first = starts e f es fs c d s in
        let e_first = starts f e fs es d c b in
        let lo : e.lo ≡ f.lo = omega (arith, ints) in
        let f_last = ends e f es fs c d lo s in
        let e_last = ends f e fs es d c (sym lo) b in
        let hi : e.hi ≡ f.hi = omega (arith, ints) in
        (lo, hi, values e f es fs c d lo s, unique es fs c.2 d.2 (tails e f es fs c d hi s))
