-- The ranges of a canonical list have as many keys as its content has values.
use Rattle.blaze_entries.proofs.Words.{◌≡◌, ℕ, zero, suc, ℤ, pos, ◌+ℤ◌, ◌-ℤ◌, ◌≤ℤ◌, Bool, cond, List, [], ◌∷◌, Option, refl, ◌∙◌, sym, subst, ap, arith, ints, by_lt_z, Entry, at, entry, IsCanonical, keys_in, IsBelow, is_some}
use Rattle.blaze_entries.specs.Count.{mapped}
use Rattle.blaze_entries.proofs.Canonical.Lookup.{IsAbove, IsAbove-from_apart, at_in, at_over, at_before, above_by}

abbrev pub one_if : {V : Type 0} → Option V → ℕ
one_if o = cond (is_some o) 1 0

module _ {V : Type 0} (eq : V → V → Bool) where
  pub none_mapped : (a : ℤ) (n : ℕ) → pos (mapped (at {V = V} []) a n) ≡ pos 0
  unfolding mapped
  none_mapped a zero = refl
  none_mapped a (suc n) = omega (arith, ints, none_mapped (a +ℤ pos 1) n)

  below_on : (b c : ℤ) (es : List (Entry V)) → b ≡ c → IsBelow b es → IsBelow c es
  below_on b c es p h = subst (λ x. IsBelow x es) p h

  apart_from : (e : Entry V) (a : ℤ) (es : List (Entry V)) → Rattle.blaze_entries.specs.Canonical.IsApart eq e es → Rattle.blaze_entries.specs.Canonical.IsApart eq (entry a e.hi e.value) es
  apart_from e a [] h = tt
  apart_from e a (f ∷ fs) h = h

  pub same_mapped : (c d : ℤ → Option V) (a : ℤ) (n : ℕ) → ((k : ℤ) → a ≤ℤ k → c k ≡ d k) → mapped c a n ≡ mapped d a n
  unfolding mapped
  same_mapped c d a zero h = refl
  same_mapped c d a (suc n) h = omega (arith, ap one_if (h a (omega (arith, ints))), same_mapped c d (a +ℤ pos 1) n (λ k l. h k (omega (arith, ints))))

  pub keys_mapped : (n : ℕ) (a : ℤ) (es : List (Entry V)) → IsCanonical eq es → IsAbove (a -ℤ pos 1) es → IsBelow (a +ℤ pos n) es → pos (mapped (at es) a n) ≡ keys_in es
  unfolding mapped
  keys_mapped zero a [] c f b = refl
  keys_mapped zero a (e ∷ es) c f b = absurd (omega (arith, ints, c.0, b.0))
  keys_mapped (suc n) a [] c f b = none_mapped a (suc n)
  keys_mapped (suc n) a (e ∷ es) c f b = by_lt_z a e.lo
      (λ l.
      let i = keys_mapped n (a +ℤ pos 1) (e ∷ es) c (omega (arith, ints)) (below_on (a +ℤ pos (suc n)) (a +ℤ pos 1 +ℤ pos n) (e ∷ es) (omega (arith, ints)) b) in
      let here = ap one_if (at_before eq (e ∷ es) a a c l (omega (arith, ints))) in
      omega (arith, ints, here, i))
      (λ l. by_lt_z a e.hi
      (λ h.
      let r = entry (a +ℤ pos 1) e.hi e.value in
      let i = keys_mapped n (a +ℤ pos 1) (r ∷ es) (omega (arith, ints), apart_from e (a +ℤ pos 1) es c.1, c.2) (omega (arith, ints)) (below_on (a +ℤ pos (suc n)) (a +ℤ pos 1 +ℤ pos n) (r ∷ es) (omega (arith, ints)) b) in
      let same = same_mapped (at (e ∷ es)) (at (r ∷ es)) (a +ℤ pos 1) n (λ k m. by_lt_z e.hi k
      (λ u. at_over e es k u ∙ sym (at_over r es k u))
      (λ u. at_in e es k (omega (arith, ints)) u ∙ sym (at_in r es k m u))) in
      let here = ap one_if (at_in e es a (omega (arith, ints)) (omega (arith, ints))) in
      omega (arith, ints, here, i, same, f))
      (λ h.
      let i = keys_mapped n (a +ℤ pos 1) es c.2 (above_by e.hi (a +ℤ pos 1 -ℤ pos 1) es (omega (arith, ints)) (IsAbove-from_apart eq e es c.1)) (below_on (a +ℤ pos (suc n)) (a +ℤ pos 1 +ℤ pos n) es (omega (arith, ints)) b.1) in
      let same = same_mapped (at (e ∷ es)) (at es) (a +ℤ pos 1) n (λ k m. at_over e es k (omega (arith, ints))) in
      let here = ap one_if (at_in e es a (omega (arith, ints)) (omega (arith, ints, c.0))) in
      omega (arith, ints, here, i, same, f, c.0)))
