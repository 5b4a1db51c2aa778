-- The entries of a canonical list are the runs of its content.
use Rattle.blaze_entries.proofs.Words.{none_is_not, ◌≡◌, ℤ, pos, ◌+ℤ◌, ◌-ℤ◌, ◌≤ℤ◌, ◌<ℤ◌, Bool, true, false, List, [], ◌∷◌, Option, Some, None, refl, ◌∙◌, sym, subst, ap, arith, inl, inr, ◌↔◌, IsSome, ints, by_lt_z, IsEquivalence, Entry, holds, at, SameOption, IsApart, IsCanonical, HasStart, HasEnd, IsClear, IsDisjoint, IsAscending, IsOnePerRun, ◌⊎◌}
use Rattle.blaze_entries.specs.Canonical.{IsRunStart, IsRunEnd}
use Rattle.blaze_entries.proofs.Alike.{same_along}
use Rattle.blaze_entries.proofs.Canonical.Lookup.{IsAbove, IsAbove-from_apart, at_in, at_over, by_place, at_before, holds_in, holds_under, holds_over}
use Rattle.blaze_entries.proofs.Canonical.Unique.{breaks}

-- the first of two successive ranges ends below the second
pub in_order : {V : Type 0} (e f : Entry V) (fs : List (Entry V)) → IsDisjoint (e ∷ f ∷ fs) → IsAscending (e ∷ f ∷ fs) → e.hi <ℤ f.lo
in_order e f fs d a = by_lt_z e.hi f.lo (λ l. l) (λ l. absurd (d.1.0 f.lo (holds_in e f.lo (omega (arith, ints, a.0)) l) (holds_in f f.lo (omega (arith, ints)) d.2.0)))

module _ {V : Type 0} (eq : V → V → Bool) (laws : IsEquivalence eq) where
  -- run starts of two contents that have the same values at the key and before it
  pub start_along : (c d : ℤ → Option V) (k : ℤ) → c k ≡ d k → c (k -ℤ pos 1) ≡ d (k -ℤ pos 1) → IsRunStart eq c k → IsRunStart eq d k
  unfolding IsRunStart
  start_along c d k p q s = (subst (λ o. IsSome o) p s.0, λ h. s.1 (same_along eq (sym q) (sym p) h))

  pub end_along : (c d : ℤ → Option V) (k : ℤ) → c k ≡ d k → c (k +ℤ pos 1) ≡ d (k +ℤ pos 1) → IsRunEnd eq c k → IsRunEnd eq d k
  unfolding IsRunEnd
  end_along c d k p q s = (subst (λ o. IsSome o) p s.0, λ h. s.1 (same_along eq (sym p) (sym q) h))

  -- a key with a value is above the bound of the list
  some_above : (es : List (Entry V)) (b k : ℤ) → IsCanonical eq es → IsAbove b es → IsSome (at es k) → b <ℤ k
  some_above es b k c a h = by_lt_z b k (λ l. l) (λ l. absurd (none_is_not (at es k) (at_before eq es b k c a l) h))

  start_first : (e : Entry V) (es : List (Entry V)) (k : ℤ) → IsCanonical eq (e ∷ es) → IsRunStart eq (at (e ∷ es)) k → (k ≡ e.lo) ⊎ IsRunStart eq (at es) k
  unfolding IsRunStart
  start_first e es k c s = by_place e k
      (λ l h. by_lt_z e.lo k
      (λ m. absurd (s.1 (same_along eq (sym (at_in e es (k -ℤ pos 1) (omega (arith, ints)) (omega (arith, ints)))) (sym (at_in e es k l h)) (laws.refl e.value))))
      (λ m. inl (omega (arith, ints))))
      (λ l. absurd (none_is_not (at (e ∷ es) k) (at_before eq (e ∷ es) (e.lo -ℤ pos 1) k c (omega (arith, ints)) (omega (arith, ints))) s.0))
      (λ h. inr (by_lt_z e.hi (k -ℤ pos 1)
      (λ m. start_along (at (e ∷ es)) (at es) k (at_over e es k h) (at_over e es (k -ℤ pos 1) m) s)
      (λ m. let n = at_before eq es e.hi (k -ℤ pos 1) c.2 (IsAbove-from_apart eq e es c.1) m in
      let o = at_over e es k h in
      (subst (λ o. IsSome o) o s.0, λ q. none_against (at es (k -ℤ pos 1)) (at es k) n (subst (λ o. IsSome o) o s.0) q))))
    where
      none_against : (a b : Option V) → a ≡ None → IsSome b → SameOption eq a b → ⊥
      none_against None None p h q = none_is_not {X = V} None refl h
      none_against None (Some y) p h q = q
      none_against (Some x) b p h q = cc

  start_later : (e : Entry V) (es : List (Entry V)) (k : ℤ) → IsCanonical eq (e ∷ es) → (k ≡ e.lo) ⊎ IsRunStart eq (at es) k → IsRunStart eq (at (e ∷ es)) k
  unfolding IsRunStart
  start_later e es k c (inl p) =
      let here = at_in e es k (omega (arith, ints)) (omega (arith, ints, c.0)) in
      let before = at_before eq (e ∷ es) (e.lo -ℤ pos 1) (k -ℤ pos 1) c (omega (arith, ints)) (omega (arith, ints)) in
      (subst (λ o. IsSome o) (sym here) refl, λ q. same_along eq before here q)
  start_later e es k c (inr s) =
      let over = some_above es e.hi k c.2 (IsAbove-from_apart eq e es c.1) s.0 in
      by_lt_z e.hi (k -ℤ pos 1)
      (λ m. start_along (at es) (at (e ∷ es)) k (sym (at_over e es k over)) (sym (at_over e es (k -ℤ pos 1) m)) s)
      (λ m. let p : k -ℤ pos 1 ≡ e.hi = omega (arith, ints) in
      let r : k ≡ e.hi +ℤ pos 1 = omega (arith, ints) in (
        subst (λ o. IsSome o) (sym (at_over e es k over)) s.0,
        λ q. breaks_some e es (at es k) c (subst (λ x. at es k ≡ at es x) r refl) (same_along eq (at_in e es (k -ℤ pos 1) (omega (arith, ints, c.0)) (omega (arith, ints))) (at_over e es k over) q),
      ))
    where
      breaks_some : (e : Entry V) (es : List (Entry V)) (o : Option V) → IsCanonical eq (e ∷ es) → o ≡ at es (e.hi +ℤ pos 1) → SameOption eq (Some e.value) o → ⊥
      breaks_some e es None c p q = q
      breaks_some e es (Some w) c p q = breaks eq laws e es w c q (same_along eq p refl (laws.refl w))

  end_first : (e : Entry V) (es : List (Entry V)) (k : ℤ) → IsCanonical eq (e ∷ es) → IsRunEnd eq (at (e ∷ es)) k → (k ≡ e.hi) ⊎ IsRunEnd eq (at es) k
  unfolding IsRunEnd
  end_first e es k c s = by_place e k
      (λ l h. by_lt_z k e.hi
      (λ m. absurd (s.1 (same_along eq (sym (at_in e es k l h)) (sym (at_in e es (k +ℤ pos 1) (omega (arith, ints)) (omega (arith, ints)))) (laws.refl e.value))))
      (λ m. inl (omega (arith, ints))))
      (λ l. absurd (none_is_not (at (e ∷ es) k) (at_before eq (e ∷ es) (e.lo -ℤ pos 1) k c (omega (arith, ints)) (omega (arith, ints))) s.0))
      (λ h. inr (end_along (at (e ∷ es)) (at es) k (at_over e es k h) (at_over e es (k +ℤ pos 1) (omega (arith, ints))) s))

  end_later : (e : Entry V) (es : List (Entry V)) (k : ℤ) → IsCanonical eq (e ∷ es) → (k ≡ e.hi) ⊎ IsRunEnd eq (at es) k → IsRunEnd eq (at (e ∷ es)) k
  unfolding IsRunEnd
  end_later e es k c (inl p) =
      let here = at_in e es k (omega (arith, ints, c.0)) (omega (arith, ints)) in (
        subst (λ o. IsSome o) (sym here) refl,
        λ q. breaks_some (at es (k +ℤ pos 1)) (ap (λ x. at es (x +ℤ pos 1)) p) (same_along eq here (at_over e es (k +ℤ pos 1) (omega (arith, ints))) q),
      )
    where
      breaks_some : (o : Option V) → o ≡ at es (e.hi +ℤ pos 1) → SameOption eq (Some e.value) o → ⊥
      breaks_some None p q = q
      breaks_some (Some w) p q = breaks eq laws e es w c q (same_along eq p refl (laws.refl w))
  end_later e es k c (inr s) =
      let over = some_above es e.hi k c.2 (IsAbove-from_apart eq e es c.1) s.0 in
      end_along (at es) (at (e ∷ es)) k (sym (at_over e es k over)) (sym (at_over e es (k +ℤ pos 1) (omega (arith, ints)))) s

  starts_are : (es : List (Entry V)) → IsCanonical eq es → (k : ℤ) → HasStart es k ↔ IsRunStart eq (at es) k
  unfolding IsRunStart
  starts_are [] c k = (λ h. absurd h, λ s. none_is_not {X = V} None refl s.0)
  starts_are (e ∷ es) c k =
      let r = starts_are es c.2 k in (
        λ h. start_later e es k c (elim h [ inl p ↦ inl p | inr q ↦ inr (r.0 q) ]),
        λ s. elim (start_first e es k c s) [ inl p ↦ inl p | inr q ↦ inr (r.1 q) ],
      )

  pub ends_are : (es : List (Entry V)) → IsCanonical eq es → (k : ℤ) → HasEnd es k ↔ IsRunEnd eq (at es) k
  unfolding IsRunEnd
  ends_are [] c k = (λ h. absurd h, λ s. none_is_not {X = V} None refl s.0)
  ends_are (e ∷ es) c k =
      let r = ends_are es c.2 k in (
        λ h. end_later e es k c (elim h [ inl p ↦ inl p | inr q ↦ inr (r.0 q) ]),
        λ s. elim (end_first e es k c s) [ inl p ↦ inl p | inr q ↦ inr (r.1 q) ],
      )

  not_both : (e f : Entry V) → e.hi <ℤ f.lo → (k : ℤ) → holds e k ≡ true → holds f k ≡ true → ⊥
  not_both e f a k p q = by_lt_z e.hi k
      (λ l. let n = holds_over e k l in cc)
      (λ l. let n = holds_under f k (omega (arith, ints)) in cc)

  clear : (e : Entry V) (es : List (Entry V)) (b : ℤ) → IsCanonical eq es → IsAbove b es → e.hi ≤ℤ b → IsClear e es
  clear e [] b c a h = tt
  clear e (f ∷ fs) b c a h = (not_both e f (omega (arith, ints)), clear e fs f.hi c.2 (IsAbove-from_apart eq f fs c.1) (omega (arith, ints, c.0)))

  disjoint : (es : List (Entry V)) → IsCanonical eq es → IsDisjoint es
  disjoint [] c = tt
  disjoint (e ∷ es) c = (c.0, clear e es e.hi c.2 (IsAbove-from_apart eq e es c.1) (omega (arith, ints)), disjoint es c.2)

  ascending : (es : List (Entry V)) → IsCanonical eq es → IsAscending es
  ascending [] c = tt
  ascending (e ∷ []) c = tt
  ascending (e ∷ f ∷ fs) c = (omega (arith, ints, c.0, c.1.0), ascending (f ∷ fs) c.2)

  -- a list that is canonical by its neighbours is canonical by its runs
  pub one_per_run : (es : List (Entry V)) → IsCanonical eq es → IsOnePerRun eq es
  one_per_run es c = record { disjoint = disjoint es c; ascending = ascending es c; starts = starts_are es c; ends = ends_are es c }

  -- every range ends above b
  abbrev AllEndAbove : ℤ → List (Entry V) → Type 0
  AllEndAbove b es = (k : ℤ) → HasEnd es k → b <ℤ k

  ends_above : (e : Entry V) (es : List (Entry V)) → IsDisjoint (e ∷ es) → IsAscending (e ∷ es) → AllEndAbove e.hi es
  ends_above e [] d a k h = absurd h
  ends_above e (f ∷ fs) d a k (inl p) = let o = in_order e f fs d a in omega (arith, ints, d.2.0)
  ends_above e (f ∷ fs) d a k (inr q) = let o = in_order e f fs d a in let r = ends_above f fs d.2 a.1 k q in omega (arith, ints, d.2.0)

  tail_ascending : (e : Entry V) (es : List (Entry V)) → IsAscending (e ∷ es) → IsAscending es
  tail_ascending e [] a = tt
  tail_ascending e (f ∷ fs) a = a.1

  apart : (e : Entry V) (es : List (Entry V)) → IsDisjoint (e ∷ es) → IsAscending (e ∷ es) → (SameOption eq (at (e ∷ es) e.hi) (at (e ∷ es) (e.hi +ℤ pos 1)) → ⊥) → IsApart eq e es
  apart e [] d a n = tt
  apart e (f ∷ fs) d a n =
      let o = in_order e f fs d a in
      (o, λ p. not_true (eq e.value f.value) (λ q. n (same_along eq (sym (at_in e (f ∷ fs) e.hi d.0 (omega (arith, ints)))) (sym (at_over e (f ∷ fs) (e.hi +ℤ pos 1) (omega (arith, ints)) ∙ at_in f fs (e.hi +ℤ pos 1) (omega (arith, ints)) (omega (arith, ints, d.2.0)))) q)))
    where
      not_true : (b : Bool) → (b ≡ true → ⊥) → b ≡ false
      not_true true h = absurd (h refl)
      not_true false h = refl

  structural : (es : List (Entry V)) → IsDisjoint es → IsAscending es → ((k : ℤ) → HasEnd es k → SameOption eq (at es k) (at es (k +ℤ pos 1)) → ⊥) → IsCanonical eq es
  structural [] d a n = tt
  structural (e ∷ es) d a n = (
    d.0,
    apart e es d a (n e.hi (inl refl)),
    structural es d.2 (tail_ascending e es a) (λ k h q.
        let b = ends_above e es d a k h in
        n k (inr h) (same_along eq (sym (at_over e es k b)) (sym (at_over e es (k +ℤ pos 1) (omega (arith, ints)))) q)),
  )

  -- a list that is canonical by its runs is canonical by its neighbours
  pub canonical : (es : List (Entry V)) → IsOnePerRun eq es → IsCanonical eq es
  unfolding IsRunEnd
  canonical es r = structural es r.disjoint r.ascending (λ k h. ((r.ends k).0 h).1)
