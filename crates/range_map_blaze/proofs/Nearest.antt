-- The nearest entries of a key: the first that ends there or above, and the last that starts there or below.
use Rattle.range_map_blaze.proofs.Words.{some_none, by_bool, int_lt, int_le, find, reverse, ◌≡◌, ℤ, pos, ◌+ℤ◌, ◌≤ℤ◌, ◌<ℤ◌, Bool, true, false, List, [], ◌∷◌, Option, Some, None, refl, ◌∙◌, sym, arith, ints, StartsAscend, last_below, IsCanonical, Entry, entry_at, entry_in, entry_under, entry_over, holding_none, holding_some, holding_not, below_none_is, below_here}

module _ {V : Type 0} (eq : V → V → Bool) (k : ℤ) where
  -- ---- the first that ends at the key or above

  pub ends_below : (e : Entry V) (es : List (Entry V)) → e.hi <ℤ k → find (λ x. int_le k x.hi) (e ∷ es) ≡ find (λ x. int_le k x.hi) es
  ends_below e es h = let p : int_le k e.hi ≡ false = grind (arith, ints) in rw p refl

  pub ends_above : (e : Entry V) (es : List (Entry V)) → k ≤ℤ e.hi → find (λ x. int_le k x.hi) (e ∷ es) ≡ Some e
  ends_above e es h = let p : int_le k e.hi ≡ true = grind (arith, ints) in rw p refl

  starts_above : (e : Entry V) (es : List (Entry V)) → k <ℤ e.lo → find (λ x. int_lt k x.lo) (e ∷ es) ≡ Some e
  starts_above e es h = let p : int_lt k e.lo ≡ true = grind (arith, ints) in rw p refl

  starts_below : (e : Entry V) (es : List (Entry V)) → e.lo ≤ℤ k → find (λ x. int_lt k x.lo) (e ∷ es) ≡ find (λ x. int_lt k x.lo) es
  starts_below e es h = let p : int_lt k e.lo ≡ false = grind (arith, ints) in rw p refl

  -- no entry has a key below the first start
  none_at : (e : Entry V) (es : List (Entry V)) → IsCanonical eq (e ∷ es) → k <ℤ e.lo → None ≡ entry_at (e ∷ es) k
  none_at e [] c h = sym (entry_under e [] k h)
  none_at e (f ∷ fs) c h = none_at f fs c.2 (let a : e.lo ≤ℤ e.hi = c.0 in let b : e.hi <ℤ f.lo = c.1.0 in omega (arith, ints)) ∙ sym (entry_under e (f ∷ fs) k h)

  by_place : {P : Type 0} (e : Entry V) → (e.hi <ℤ k → P) → (k <ℤ e.lo → k ≤ℤ e.hi → P) → (e.lo ≤ℤ k → k ≤ℤ e.hi → P) → P
  by_place e over under inside =
      by_bool (int_le k e.hi) (λ p. by_bool (int_le e.lo k) (λ q. inside (grind (arith, ints)) (grind (arith, ints))) (λ q. under (grind (arith, ints)) (grind (arith, ints)))) (λ p. over (grind (arith, ints)))

  -- the entry that has the key is the first
  pub first_with_key : (es : List (Entry V)) → IsCanonical eq es → (e : Entry V) → Some e ≡ entry_at es k → Some e ≡ find (λ x. int_le k x.hi) es
  first_with_key [] c e is = is
  first_with_key (x ∷ xs) c e is =
      by_place x (λ over. first_with_key xs c.2 e (is ∙ entry_over x xs k over) ∙ sym (ends_below x xs over)) (λ under to. absurd (some_none (is ∙ sym (none_at x xs c under))))
      (λ l h. is ∙ entry_in x xs k l h ∙ sym (ends_above x xs h))

  -- where no entry has the key, it is the first that starts above
  pub first_above : (es : List (Entry V)) → IsCanonical eq es → None ≡ entry_at es k → find (λ x. int_lt k x.lo) es ≡ find (λ x. int_le k x.hi) es
  first_above [] c is = refl
  first_above (x ∷ xs) c is =
      by_place x (λ over. starts_below x xs (let a : x.lo ≤ℤ x.hi = c.0 in omega (arith, ints)) ∙ first_above xs c.2 (is ∙ entry_over x xs k over) ∙ sym (ends_below x xs over))
      (λ under to. starts_above x xs under ∙ sym (ends_above x xs to)) (λ l h. absurd (some_none (sym (is ∙ entry_in x xs k l h))))

  -- ---- the last that starts at the key or below

  pub by_end : {P : Type 0} (e : Entry V) → (e.hi <ℤ k → P) → (k ≤ℤ e.hi → P) → P
  by_end e over to = by_bool (int_le k e.hi) (λ p. to (grind (arith, ints))) (λ p. over (grind (arith, ints)))

  module _ (b high : ℤ) (es : List (Entry V)) (c : IsCanonical eq es) (a : StartsAscend b high es) where
    last_is : (o : Option (Entry V)) → o ≡ last_below (k +ℤ pos 1) es → (e : Entry V) → Some e ≡ entry_at es k → Some e ≡ o
    last_is None last e is = absurd (some_none (is ∙ sym (holding_none eq k b high es c a last)))
    last_is (Some x) last e is = by_end x (λ over. absurd (some_none (is ∙ sym (holding_not eq k b high es c a x last over)))) (λ to. is ∙ sym (holding_some eq k b high es c a x last to))

    -- the entry that has the key is the last
    pub last_with_key : (e : Entry V) → Some e ≡ entry_at es k → Some e ≡ last_below (k +ℤ pos 1) es
    last_with_key = last_is (last_below (k +ℤ pos 1) es) refl

    last_under : (o : Option (Entry V)) → o ≡ last_below (k +ℤ pos 1) es → None ≡ entry_at es k → find (λ x. int_lt x.hi k) (reverse es) ≡ o
    last_under None last is = sym (below_none_is eq k b high es c a last)
    last_under (Some x) last is = by_end x (λ over. sym (below_here eq k b high es c a x last over)) (λ to. absurd (some_none (holding_some eq k b high es c a x last to ∙ sym is)))

    -- where no entry has the key, it is the last that ends below
    pub last_under_key : None ≡ entry_at es k → find (λ x. int_lt x.hi k) (reverse es) ≡ last_below (k +ℤ pos 1) es
    last_under_key = last_under (last_below (k +ℤ pos 1) es) refl
