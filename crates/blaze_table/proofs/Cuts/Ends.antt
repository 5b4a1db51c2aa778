-- The first and the last key are removed: they are in the first and the last entry.
use Rattle.blaze_table.proofs.Words.{◌≡◌, ◌-◌, ℤ, pos, ◌+ℤ◌, ◌≤ℤ◌, ◌<ℤ◌, Bool, cond, List, [], ◌∷◌, length, Option, Some, None, refl, ◌∙◌, sym, subst, ap, arith, IsEquivalence, slice_get, last_or, IsSome, IfSome, IsSomeAnd, ints, lt_false, IsRangeCloned, IsManyCloned, range_in, StartsAscend, below, last_below, entry_reaching, holder_of, RangeEntry, below_takes, below_none, IsCanonical, IsAmongOthers, Entry}
use Rattle.blaze_table.proofs.Cuts.CutEdits.{HasKey, has_key, among_others}

module _ {V : Type 0} (eq : V → V → Bool) where
  -- all entries start up to the end of the last
  last_from : (o : Option (Entry V)) (e : Entry V) (es : List (Entry V)) (l : Entry V) → IsCanonical eq (e ∷ es) → slice_get (e ∷ es) (length es) ≡ Some l
      → (e.lo ≤ℤ l.hi) × (last_or o (below (l.hi +ℤ pos 1) (e ∷ es)) ≡ Some l)
  last_from o e [] l c p =
      let same : e ≡ l = cc in
      subst (λ (f : Entry V). (e.lo ≤ℤ f.hi) × (last_or o (below (f.hi +ℤ pos 1) (e ∷ [])) ≡ Some f)) same
      (c.0, ap (last_or o) (below_takes (e.hi +ℤ pos 1) e [] (omega (arith, ints, c.0))))
  last_from o e (f ∷ fs) l c p =
      let rest = last_from (Some e) f fs l c.2 p in
      let up : e.lo ≤ℤ l.hi = omega (arith, ints, c.0, c.1.0, rest.0) in
      (up, ap (last_or o) (below_takes (l.hi +ℤ pos 1) e (f ∷ fs) (omega (arith, ints, up))) ∙ rest.1)

  last_entry : (es : List (Entry V)) (l : Entry V) → IsCanonical eq es → slice_get es (length es - 1) ≡ Some l → last_below (l.hi +ℤ pos 1) es ≡ Some l
  last_entry [] l c p = absurd (cc)
  last_entry (e ∷ es) l c p =
      let place : length (e ∷ es) - 1 ≡ length es = omega arith in
      (last_from None e es l c (subst (λ n. slice_get (e ∷ es) n ≡ Some l) place p)).1

  -- the entry contains the key
  holds : (k : ℤ) (es : List (Entry V)) (e : Entry V) → k ≤ℤ e.hi → last_below (k +ℤ pos 1) es ≡ Some e → holder_of k es ≡ Some e
  holds k es e u q = ap (entry_reaching k) q ∙ ap (λ b. cond b None (Some e)) (lt_false e.hi k u)

  first_holder : (low high : ℤ) (es : List (Entry V)) → StartsAscend low high es → IsCanonical eq es → (e : Entry V) → slice_get es 0 ≡ Some e → holder_of e.lo es ≡ Some e
  first_holder low high [] s c e p = cc
  first_holder low high (x ∷ es) s c e p =
      let same : x ≡ e = cc in
      subst (λ (f : Entry V). holder_of f.lo (x ∷ es) ≡ Some f) same
      (holds x.lo (x ∷ es) x c.0
      (ap (last_or None) (below_takes (x.lo +ℤ pos 1) x es (omega (arith, ints)) ∙ ap (λ l. x ∷ l) (below_none (x.lo +ℤ pos 1) (x.lo +ℤ pos 1) high es (omega (arith, ints)) s.2))))

  pub last_holder : (es : List (Entry V)) → IsCanonical eq es → (e : Entry V) → slice_get es (length es - 1) ≡ Some e → holder_of e.hi es ≡ Some e
  last_holder es c e p = holds e.hi es e (omega (arith, ints)) (last_entry es e c p)

  pub first_there : (es : List (Entry V)) → (length es ≡ 0 → ⊥) → IsSome (slice_get es 0)
  first_there [] n = absurd (n refl)
  first_there (e ∷ es) n = refl

  pub first_refused : (es : List (Entry V)) → (length es ≡ 0 → ⊥) → IfSome (slice_get es 0) (λ e. IsAmongOthers e.lo es) → (first : Entry V) × (slice_get es 0 ≡ Some first) × IsAmongOthers first.lo es
  first_refused [] n h = absurd (n refl)
  first_refused (e ∷ es) n h = (e, refl, h)

  pub last_there : (es : List (Entry V)) → (length es ≡ 0 → ⊥) → IsSome (slice_get es (length es - 1))
  last_there [] n = absurd (n refl)
  last_there (e ∷ es) n =
      let place : length (e ∷ es) - 1 ≡ length es = omega arith in
      subst (λ k. IsSome (slice_get (e ∷ es) k)) (sym place) (inside e es)
    where
      inside : (e : Entry V) (es : List (Entry V)) → IsSome (slice_get (e ∷ es) (length es))
      inside e [] = refl
      inside e (f ∷ fs) = inside f fs

  pub last_refused : (es : List (Entry V)) → (length es ≡ 0 → ⊥) → IfSome (slice_get es (length es - 1)) (λ e. IsAmongOthers e.hi es) → (last : Entry V) × (slice_get es (length es - 1) ≡ Some last) × IsAmongOthers last.hi es
  last_refused es n h = by_there (slice_get es (length es - 1)) refl (last_there es n) h
    where
      by_there : (o : Option (Entry V)) → slice_get es (length es - 1) ≡ o → IsSome o → IfSome o (λ e. IsAmongOthers e.hi es) → (last : Entry V) × (slice_get es (length es - 1) ≡ Some last) × IsAmongOthers last.hi es
      by_there None q i h = cc
      by_there (Some l) q i h = (l, q, h)

-- an end of the entry o, which a lookup returned, is a key of the entry
module _ {V : Type 0} (eq : V → V → Bool) (laws : IsEquivalence eq) (low high : ℤ) (es : List (Entry V)) (s : StartsAscend low high es) (c : IsCanonical eq es)
    (end : ℤ × ℤ → ℤ) (o : Option (Entry V)) (f : (e : Entry V) → o ≡ Some e → holder_of (end (range_in e)) es ≡ Some e) where
  -- the entry has other keys too
  pub end_among : IsSomeAnd o (λ e. e.lo <ℤ e.hi) → IfSome o (λ e. IsAmongOthers (end (range_in e)) es)
  end_among i = by_end o f i
    where
      by_end : (o : Option (Entry V)) → ((e : Entry V) → o ≡ Some e → holder_of (end (range_in e)) es ≡ Some e) → IsSomeAnd o (λ e. e.lo <ℤ e.hi) → IfSome o (λ e. IsAmongOthers (end (range_in e)) es)
      by_end None f i = tt
      by_end (Some e) f i =
          let h = has_key eq laws (end (range_in e)) low high es s c (λ x. x.lo <ℤ x.hi) (subst (λ x. IsSomeAnd x (λ y. y.lo <ℤ y.hi)) (sym (f e refl)) i) in
          among_others eq laws (end (range_in e)) low high es s c h.of h.last h.up h.holds

  module _ {T : Type 0} (rank : T → ℤ) (is_clone : V → V → Type 0) (r : RangeEntry T (Option V)) where
    pub end_held : IsRangeCloned rank is_clone o (Some r) → IsRangeCloned rank is_clone (holder_of (end (rank r.start, rank r.end)) es) (Some r)
    end_held i = by_end o f i
      where
        by_end : (o : Option (Entry V)) → ((e : Entry V) → o ≡ Some e → holder_of (end (range_in e)) es ≡ Some e) → IsRangeCloned rank is_clone o (Some r) → IsRangeCloned rank is_clone (holder_of (end (rank r.start, rank r.end)) es) (Some r)
        by_end None f i = absurd i
        by_end (Some e) f i =
            subst (λ o. IsSomeAnd o (λ x. ((rank r.start, rank r.end) ≡ range_in x) × IsManyCloned is_clone x r.value)) (sym (ap (λ t. holder_of (end t) es) i.0 ∙ f e refl)) i

-- the first entry has other keys too, and it contains its first key
module _ {V : Type 0} (eq : V → V → Bool) (laws : IsEquivalence eq) (low high : ℤ) (es : List (Entry V)) (s : StartsAscend low high es) (c : IsCanonical eq es) where
  pub first_among : IsSomeAnd (slice_get es 0) (λ e. e.lo <ℤ e.hi) → IfSome (slice_get es 0) (λ e. IsAmongOthers e.lo es)
  first_among i = end_among eq laws low high es s c (λ x. x.0) (slice_get es 0) (first_holder eq low high es s c) i

  pub first_has : {T : Type 0} (rank : T → ℤ) (is_clone : V → V → Type 0) (r : RangeEntry T (Option V)) → IsRangeCloned rank is_clone (slice_get es 0) (Some r) → HasKey eq laws (rank r.start) low high es s c (λ x. ((rank r.start, rank r.end) ≡ range_in x) × IsManyCloned is_clone x r.value)
  first_has rank is_clone r i = has_key eq laws (rank r.start) low high es s c _ (end_held eq laws low high es s c (λ x. x.0) (slice_get es 0) (first_holder eq low high es s c) rank is_clone r i)
