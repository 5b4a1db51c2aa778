-- The last key up to which a list has the same range, or none.
use Rattle.blaze_streams.proofs.Words.{◌≡◌, ℤ, pos, ◌+ℤ◌, ◌-ℤ◌, ◌≤ℤ◌, ◌<ℤ◌, Bool, cond, List, [], ◌∷◌, Option, Some, None, refl, ◌∙◌, sym, subst, ap, arith, inl, inr, ⊎_elim, ◌⊎◌, IsEquivalence, ints, by_lt_z, le_true, le_false, same_along, Entry, at, SameOption, IsCanonical, after, at_in, at_over, at_before, breaks, above_after, canonical_after, first_key, steady_to, IsFrom, Reaches}

-- t is at most the number, if the number exists
abbrev pub AtMost : ℤ → Option ℤ → Type 0
AtMost t None = Unit {0}
AtMost t (Some u) = t ≤ℤ u

-- the first range ends at t, or starts right above it
abbrev pub Stops : {A : Type 0} → ℤ → List (Entry A) → Type 0
Stops t [] = ⊥
Stops t (e ∷ es) = (t ≡ e.hi) ⊎ (e.lo ≡ t +ℤ pos 1)

pub same_some : (x y : ℤ) → Some x ≡ Some y → x ≡ y
same_some x y p = cc

module _ {A : Type 0} where
  -- `steady_to`, by whether the first range has started
  by_steady : {P : Type 0} (s : ℤ) (e : Entry A) (es : List (Entry A))
      → (e.lo ≤ℤ s → steady_to s (e ∷ es) ≡ Some e.hi → P)
      → (s <ℤ e.lo → steady_to s (e ∷ es) ≡ Some (e.lo -ℤ pos 1) → P) → P
  by_steady s e es started not_started = by_lt_z s e.lo
      (λ l. not_started l (ap (λ b. Some (cond b e.hi (e.lo -ℤ pos 1))) (le_false e.lo s l)))
      (λ l. started l (ap (λ b. Some (cond b e.hi (e.lo -ℤ pos 1))) (le_true e.lo s l)))

  pub from_first : (s : ℤ) (es : List (Entry A)) → AtMost s (first_key es) → IsFrom s es
  from_first s [] m = tt
  from_first s (e ∷ es) m = m

  pub stops_steady : (s t : ℤ) (es : List (Entry A)) → steady_to s es ≡ Some t → Stops t es
  stops_steady s t [] p = cc
  stops_steady s t (e ∷ es) p = by_steady s e es
      (λ b q. let u : t ≡ e.hi = same_some t e.hi (sym p ∙ q) in inl u)
      (λ b q. let u : t ≡ (e.lo -ℤ pos 1) = same_some t (e.lo -ℤ pos 1) (sym p ∙ q) in inr (omega (arith, ints)))

  module _ (eq : A → A → Bool) where
    -- no value before the first range
    pub at_first : (e : Entry A) (es : List (Entry A)) (k : ℤ) → IsCanonical eq (e ∷ es) → k <ℤ e.lo → at (e ∷ es) k ≡ None
    at_first e es k c l = at_before eq (e ∷ es) k k c l (omega (arith, ints))

    pub at_below_from : (es : List (Entry A)) (s k : ℤ) → IsCanonical eq es → IsFrom s es → k <ℤ s → at es k ≡ None
    at_below_from [] s k c f h = refl
    at_below_from (e ∷ es) s k c f h = at_first e es k c (omega (arith, ints, f))

    pub at-after_under : (t k : ℤ) (es : List (Entry A)) → IsCanonical eq es → k ≤ℤ t → at (after t es) k ≡ None
    at-after_under t k es c l = at_before eq (after t es) t k (canonical_after eq t es c) (above_after t es) l

    pub steady : (s t k : ℤ) (es : List (Entry A)) → IsCanonical eq es → IsFrom s es → AtMost t (steady_to s es) → s ≤ℤ k → k ≤ℤ t → at es k ≡ at es s
    steady s t k [] c f m l h = refl
    steady s t k (e ∷ es) c f m l h = by_steady s e es
        (λ b p. let u : t ≤ℤ e.hi = subst (AtMost t) p m in at_in e es k (omega (arith, ints)) (omega (arith, ints)) ∙ sym (at_in e es s b (omega (arith, ints))))
        (λ b p. let u : t ≤ℤ (e.lo -ℤ pos 1) = subst (AtMost t) p m in at_first e es k c (omega (arith, ints)) ∙ sym (at_first e es s c b))

    pub reaches : (s t : ℤ) (es : List (Entry A)) → IsCanonical eq es → AtMost t (steady_to s es) → Reaches t es
    reaches s t [] c m = tt
    reaches s t (e ∷ es) c m = by_steady s e es
        (λ b p. let u : t ≤ℤ e.hi = subst (AtMost t) p m in u)
        (λ b p. let u : t ≤ℤ (e.lo -ℤ pos 1) = subst (AtMost t) p m in omega (arith, ints, c.0))

    -- the result of `steady_to` is not below the key from which it starts
    pub steady_far : (s t : ℤ) (es : List (Entry A)) → IsCanonical eq es → IsFrom s es → steady_to s es ≡ Some t → s ≤ℤ t
    steady_far s t [] c f p = cc
    steady_far s t (e ∷ es) c f p = by_steady s e es
        (λ b q. let u : t ≡ e.hi = same_some t e.hi (sym p ∙ q) in omega (arith, ints, c.0, f))
        (λ b q. let u : t ≡ (e.lo -ℤ pos 1) = same_some t (e.lo -ℤ pos 1) (sym p ∙ q) in omega (arith, ints))

    pub starts_there : (s : ℤ) (es : List (Entry A)) → IsCanonical eq es → first_key es ≡ Some s → (v : A) × (at es s ≡ Some v)
    starts_there s [] c p = cc
    starts_there s (e ∷ es) c p = let u : e.lo ≡ s = same_some e.lo s p in (e.value, at_in e es s (omega (arith, ints)) (omega (arith, ints, c.0)))

    -- if the first range ends at t or starts right above it, the values at t and right above t differ
    pub changes : (laws : IsEquivalence eq) (es : List (Entry A)) (t : ℤ) → IsCanonical eq es → Stops t es → SameOption eq (at es t) (at es (t +ℤ pos 1)) → ⊥
    changes laws [] t c s h = s
    changes laws (e ∷ es) t c s h = ⊎_elim
        (λ p. let above : e.hi <ℤ (t +ℤ pos 1) = omega (arith, ints) in
        let next : t +ℤ pos 1 ≡ e.hi +ℤ pos 1 = ap (λ z. z +ℤ pos 1) p in
        other (at es (e.hi +ℤ pos 1)) refl (same_along eq (at_in e es t (omega (arith, ints, c.0)) (omega (arith, ints))) (at_over e es (t +ℤ pos 1) above ∙ ap (at es) next) h))
        (λ p. same_along eq {c = None} (at_first e es t c (omega (arith, ints))) (at_in e es (t +ℤ pos 1) (omega (arith, ints)) (omega (arith, ints, c.0))) h)
        s
      where
        other : (x : Option A) → at es (e.hi +ℤ pos 1) ≡ x → SameOption eq (Some e.value) x → ⊥
        other None q v = v
        other (Some w) q v = breaks eq laws e es w c v (same_along eq (sym q) refl (laws.refl w))
