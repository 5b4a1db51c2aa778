-- When every key has a value.
use Rattle.range_map_blaze.proofs.Words.{nat_of, ◌≡◌, ℕ, zero, suc, ◌≤◌, ℤ, pos, ◌+ℤ◌, ◌-ℤ◌, ◌≤ℤ◌, ◌<ℤ◌, Bool, true, false, not, Option, Some, None, refl, ◌∙◌, sym, ap, subst, arith, IsSome, IsTrue, ints, by_lt_z, mapped_keys, one_if}
use Rattle.blaze_entries.specs.Count.{mapped}

module _ {V : Type 0} (content : ℤ → Option V) where
  one_of : (o : Option V) → one_if o ≡ 1 → IsSome o
  one_of None p = absurd (omega arith)
  one_of (Some x) p = refl

  one_if_some : (o : Option V) → IsSome o → one_if o ≡ 1
  one_if_some None p = absurd (cc)
  one_if_some (Some x) p = refl

  at_most_one : (o : Option V) → one_if o ≤ 1
  at_most_one None = omega arith
  at_most_one (Some x) = omega arith

  mapped_at_most : (a : ℤ) (n : ℕ) → mapped content a n ≤ n
  unfolding mapped
  mapped_at_most a zero = omega arith
  mapped_at_most a (suc n) = omega (arith, at_most_one (content a), mapped_at_most (a +ℤ pos 1) n)

  all_of : (a : ℤ) (n : ℕ) → mapped content a n ≡ n → (k : ℤ) → a ≤ℤ k → k <ℤ (a +ℤ pos n) → IsSome (content k)
  unfolding mapped
  all_of a zero p k l h = absurd (omega (arith, ints))
  all_of a (suc n) p k l h =
      let one : one_if (content a) ≡ 1 = omega (arith, p, at_most_one (content a), mapped_at_most (a +ℤ pos 1) n) in
      let rest : mapped content (a +ℤ pos 1) n ≡ n = omega (arith, p, at_most_one (content a), mapped_at_most (a +ℤ pos 1) n) in
      by_lt_z a k
      (λ u. all_of (a +ℤ pos 1) n rest k (omega (arith, ints)) (omega (arith, ints)))
      (λ u. let here : a ≡ k = omega (arith, ints) in subst (λ j. IsSome (content j)) here (one_of (content a) one))

  of_all : (a : ℤ) (n : ℕ) → ((k : ℤ) → a ≤ℤ k → k <ℤ (a +ℤ pos n) → IsSome (content k)) → mapped content a n ≡ n
  unfolding mapped
  of_all a zero f = refl
  of_all a (suc n) f =
      let here = one_if_some (content a) (f a (omega (arith, ints)) (omega (arith, ints))) in
      let rest = of_all (a +ℤ pos 1) n (λ k l h. f k (omega (arith, ints)) (omega (arith, ints))) in
      omega (arith, here, rest)

  width_is : (low high : ℤ) (n : ℕ) → (low +ℤ pos n) ≡ high +ℤ pos 1 → nat_of (high -ℤ low +ℤ pos 1) ≡ n
  width_is low high n p = ap nat_of same
    where
      same : high -ℤ low +ℤ pos 1 ≡ pos n
      same = omega (arith, ints)

  -- a test whether the number of mapped keys is not that of all keys
  pub universal : (low high : ℤ) (m n : ℕ) (d : Bool) → m ≡ mapped_keys low high content → (low +ℤ pos n) ≡ high +ℤ pos 1 → (IsTrue d → (m ≡ n → ⊥)) × ((m ≡ n → ⊥) → IsTrue d)
      → (IsTrue (not d) → (k : ℤ) → low ≤ℤ k → k ≤ℤ high → IsSome (content k)) × (((k : ℤ) → low ≤ℤ k → k ≤ℤ high → IsSome (content k)) → IsTrue (not d))
  universal low high m n true e w p = (
    (λ t. absurd (cc)),
    (λ f. absurd (p.0 refl (e ∙ ap (mapped content low) (width_is low high n w) ∙ of_all low n (λ k l h. f k l (omega (arith, ints)))))),
  )
  universal low high m n false e w p = (
    (λ t k l h. all_of low n (sym (ap (mapped content low) (width_is low high n w)) ∙ sym e ∙ equal) k l (omega (arith, ints))),
    (λ f. refl),
  )
    where
      by_eq : (m n : ℕ) → ((m ≡ n → ⊥) → IsTrue false) → m ≡ n
      by_eq m n q = grind (arith, q)

      equal : m ≡ n
      equal = by_eq m n p.1
