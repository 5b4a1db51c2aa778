-- The lesser of two keys.
use Rattle.blaze_streams.proofs.Words.{◌≡◌, ℤ, ◌≤ℤ◌, cond, Option, Some, None, refl, ◌∙◌, sym, subst, ap, arith, inl, inr, ◌⊎◌, ints, by_lt_z, le_true, le_false, lesser}
use Rattle.blaze_streams.proofs.Steady.{AtMost, same_some}

pub at_most_both : (p q : Option ℤ) (t : ℤ) → AtMost t (lesser p q) → AtMost t p × AtMost t q
at_most_both None q t m = (tt, m)
at_most_both (Some a) None t m = (m, tt)
at_most_both (Some a) (Some b) t m = by_lt_z b a
    (λ l. let u : t ≤ℤ b = subst (AtMost t) (ap (λ z. Some (cond z a b)) (le_false a b l)) m in (omega (arith, ints), u))
    (λ l. let u : t ≤ℤ a = subst (AtMost t) (ap (λ z. Some (cond z a b)) (le_true a b l)) m in (u, omega (arith, ints)))

pub at_most_itself : (o : Option ℤ) (t : ℤ) → o ≡ Some t → AtMost t o
at_most_itself o t p = let u : t ≤ℤ t = omega (arith, ints) in subst (AtMost t) (sym p) u

pub at_most_less : (a b : ℤ) (o : Option ℤ) → a ≤ℤ b → AtMost b o → AtMost a o
at_most_less a b None h m = tt
at_most_less a b (Some c) h m = omega (arith, ints)

-- a key that is at most the other is the lesser
pub lesser_first : (a : ℤ) (o : Option ℤ) → AtMost a o → lesser (Some a) o ≡ Some a
lesser_first a None m = refl
lesser_first a (Some b) m = ap (λ t. Some (cond t a b)) (le_true a b m)

pub not_less : (a b : ℤ) → lesser (Some a) (Some b) ≡ Some a → a ≤ℤ b
not_less a b e = by_lt_z b a
    (λ l. let same : b ≡ a = same_some b a (sym (ap (λ t. Some (cond t a b)) (le_false a b l)) ∙ e) in omega (arith, ints))
    (λ l. l)

-- it is one of the two
pub lesser_one : (p q : Option ℤ) (s : ℤ) → lesser p q ≡ Some s → (p ≡ Some s) ⊎ (q ≡ Some s)
lesser_one None q s e = inr e
lesser_one (Some a) None s e = inl e
lesser_one (Some a) (Some b) s e = by_lt_z b a
    (λ l. inr (sym (ap (λ t. Some (cond t a b)) (le_false a b l)) ∙ e))
    (λ l. inl (sym (ap (λ t. Some (cond t a b)) (le_true a b l)) ∙ e))

pub some_lesser : (a : ℤ) (o : Option ℤ) → lesser (Some a) o ≡ None → ⊥
some_lesser a None p = cc
some_lesser a (Some b) p = cc

-- the order of the two does not matter
pub lesser_exchanged : (p q : Option ℤ) → lesser p q ≡ lesser q p
lesser_exchanged None None = refl
lesser_exchanged None (Some b) = refl
lesser_exchanged (Some a) None = refl
lesser_exchanged (Some a) (Some b) = by_lt_z b a
    (λ l. ap (λ t. Some (cond t a b)) (le_false a b l) ∙ sym (ap (λ t. Some (cond t b a)) (le_true b a (omega (arith, ints)))))
    (λ l. ap (λ t. Some (cond t a b)) (le_true a b l) ∙ sym (by_lt_z a b
    (λ h. ap (λ t. Some (cond t b a)) (le_false b a h))
    (λ h. let same : b ≡ a = omega (arith, ints) in ap (λ t. Some (cond t b a)) (le_true b a h) ∙ ap (λ z. Some z) same)))
