-- The last pair that contains a key.
use Rattle.blaze_table.proofs.Words.{option_or, ◌≡◌, ℕ, zero, suc, ◌<◌, ℤ, pos, ◌+ℤ◌, ◌≤ℤ◌, ◌<ℤ◌, Bool, true, false, cond, List, [], ◌∷◌, Option, Some, None, refl, ◌∙◌, ap, arith, slice_get, ints, or_none, Entry, holds, last_at, AreApart, holds_in, holds_under, holds_over}

module _ {V : Type 0} where
  pub painted_one : (b : Bool) (v : V) (o : Option V) → cond b (Some v) o ≡ option_or (cond b (Some v) None) o
  painted_one true v o = refl
  painted_one false v o = refl

  put : (a b : Option V) (x y : Bool) (v : V) → a ≡ b → x ≡ y → option_or a (cond x (Some v) None) ≡ option_or b (cond y (Some v) None)
  put a b x y v p q = ap (λ o. option_or o (cond x (Some v) None)) p ∙ ap (λ z. option_or b (cond z (Some v) None)) q

  -- no pair contains the key
  pub last_none : (ps : List (Entry V)) (k : ℤ) → ((j : ℕ) (e : Entry V) → slice_get ps j ≡ Some e → holds e k ≡ false) → last_at ps k ≡ None
  last_none [] k f = refl
  last_none (p ∷ ps) k f = put (last_at ps k) None (holds p k) false p.value (last_none ps k (λ j e q. f (suc j) e q)) (f zero p refl)

  -- the pair contains the key, and no later pair does
  pub last_is : (ps : List (Entry V)) (j : ℕ) (e : Entry V) (k : ℤ) → slice_get ps j ≡ Some e → holds e k ≡ true → ((i : ℕ) (f : Entry V) → j < i → slice_get ps i ≡ Some f → holds f k ≡ false) → last_at ps k ≡ Some e.value
  last_is [] j e k q h f = cc
  last_is (p ∷ ps) zero e k q h f =
      let same : p ≡ e = cc in
      put (last_at ps k) None (holds p k) true p.value (last_none ps k (λ i g r. f (suc i) g (omega arith) r)) (ap (λ x. holds x k) same ∙ h) ∙ ap (λ (x : Entry V). Some x.value) same
  last_is (p ∷ ps) (suc j) e k q h f = ap (λ o. option_or o (cond (holds p k) (Some p.value) None)) (last_is ps j e k q h (λ i g l r. f (suc i) g (omega arith) r))

  -- below all pairs
  pub last_below : (b k : ℤ) (ps : List (Entry V)) → AreApart b ps → k <ℤ b → last_at ps k ≡ None
  last_below b k [] a l = refl
  last_below b k (p ∷ ps) a l = put (last_at ps k) None (holds p k) false p.value (last_below (p.hi +ℤ pos 1) k ps a.2 (omega (arith, ints, a.0, a.1))) (holds_under p k (omega (arith, ints, a.0)))

  -- in the first pair, which is below the others
  pub last_first : (k : ℤ) (p : Entry V) (ps : List (Entry V)) → AreApart (p.hi +ℤ pos 1) ps → p.lo ≤ℤ k → k ≤ℤ p.hi → last_at (p ∷ ps) k ≡ Some p.value
  last_first k p ps a l u = put (last_at ps k) None (holds p k) true p.value (last_below (p.hi +ℤ pos 1) k ps a (omega (arith, ints))) (holds_in p k l u)

  -- above the first pair
  pub last_over : (k : ℤ) (p : Entry V) (ps : List (Entry V)) → p.hi <ℤ k → last_at (p ∷ ps) k ≡ last_at ps k
  last_over k p ps u = put (last_at ps k) (last_at ps k) (holds p k) false p.value refl (holds_over p k u) ∙ or_none (last_at ps k)
