-- Entries that a paint does not affect are in the painted list.
use Rattle.blaze_entries.proofs.Words.{◌≡◌, ℤ, pos, ◌+ℤ◌, ◌≤ℤ◌, ◌<ℤ◌, Bool, true, false, List, [], ◌∷◌, inl, inr, ⊎_elim, sym, subst, ap, arith, IsEquivalence, Contains, ints, by_lt_z, Contains-append_left, Contains-append_right, Contains-append_cases, Contains-push, Contains-push_cases, from, Entry, IsCanonical, IsApartFrom, IsAlreadyIn, IsInside, LeavesAlone, before, after, glue, IsBelow, IsSameAbove}
use Rattle.blaze_entries.proofs.Halves.{from_takes, from_skips}
use Rattle.blaze_entries.proofs.Canonical.Lookup.{IsAbove, IsAbove-from_apart, above_by}
use Rattle.blaze_entries.proofs.Paints.Splices.{by_before, by_after, by_join, below_before, below_left}

module _ {V : Type 0} where
  none_in : {P : Type 0} (e : Entry V) → Contains [] e → P
  none_in e (k, u, q) = absurd (omega arith)

  pub first_in : (e : Entry V) (es : List (Entry V)) → Contains (e ∷ es) e
  first_in e es = Contains-append_left (e ∷ []) es e (Contains-push [] e)

  pub later_in : (f : Entry V) (es : List (Entry V)) (e : Entry V) → Contains es e → Contains (f ∷ es) e
  later_in f es e c = Contains-append_right (f ∷ []) es e c

  -- it is the first, or a later one
  pub by_first : {P : Type 0} (f : Entry V) (es : List (Entry V)) (e : Entry V) → Contains (f ∷ es) e → (f ≡ e → P) → (Contains es e → P) → P
  by_first f es e c first later =
      ⊎_elim (λ one. ⊎_elim (λ none. none_in e none) first (Contains-push_cases [] f e one)) later (Contains-append_cases (f ∷ []) es e c)

  -- the first is in a list that begins with it
  pub same_in : (f : Entry V) (es : List (Entry V)) (e : Entry V) → f ≡ e → Contains (f ∷ es) e
  same_in f es e q = subst (Contains (f ∷ es)) q (first_in f es)

  pub in_from : (k : ℤ) (es : List (Entry V)) (e : Entry V) → Contains es e → k ≤ℤ e.lo → Contains (from k es) e
  in_from k [] e c u = c
  in_from k (f ∷ fs) e c u = by_lt_z f.lo k
      (λ m. rw (from_skips k f fs m) (by_first f fs e c (λ q. let lo = ap (λ (x : Entry V). x.lo) q in absurd (omega (arith, ints))) (λ l. in_from k fs e l u)))
      (λ m. rw (from_takes k f fs m) (by_first f fs e c (same_in f (from k fs) e) (λ l. later_in f (from k fs) e (in_from k fs e l u))))

module _ {V : Type 0} (eq : V → V → Bool) where
  -- an entry of a canonical list above b
  pub over_in : (b : ℤ) (es : List (Entry V)) (e : Entry V) → IsAbove b es → IsCanonical eq es → Contains es e → (b <ℤ e.lo) × (e.lo ≤ℤ e.hi)
  over_in b [] e a k c = none_in e c
  over_in b (f ∷ fs) e a k c = by_first f fs e c
      (λ q. subst (λ (x : Entry V). (b <ℤ x.lo) × (x.lo ≤ℤ x.hi)) q (a, k.0))
      (λ l. over_in b fs e (above_by f.hi b fs (omega (arith, ints, a, k.0)) (IsAbove-from_apart eq f fs k.1)) k.2 l)

  -- a later entry starts above the end of the first
  later_over : (f : Entry V) (fs : List (Entry V)) (e : Entry V) → IsCanonical eq (f ∷ fs) → Contains fs e → (f.hi <ℤ e.lo) × (e.lo ≤ℤ e.hi)
  later_over f fs e k l = over_in f.hi fs e (IsAbove-from_apart eq f fs k.1) k.2 l

  pub in_after : (k : ℤ) (es : List (Entry V)) (e : Entry V) → IsCanonical eq es → Contains es e → k <ℤ e.lo → Contains (after k es) e
  in_after k [] e d c u = c
  in_after k (f ∷ fs) e d c u = by_after k f fs
      (λ m p. rw p (by_first f fs e c (λ q. let lo = ap (λ (x : Entry V). x.lo) q in absurd (omega (arith, ints, d.0))) (λ l. in_after k fs e d.2 l u)))
      (λ m n p. rw p (by_first f fs e c (λ q. let lo = ap (λ (x : Entry V). x.lo) q in absurd (omega (arith, ints))) (λ l. later_in _ fs e l)))
      (λ m n p. rw p c)

  pub in_before : (k : ℤ) (es : List (Entry V)) (e : Entry V) → IsCanonical eq es → Contains es e → e.hi <ℤ k → Contains (before k es) e
  in_before k [] e d c u = c
  in_before k (f ∷ fs) e d c u = by_before k f fs
      (λ m p. rw p (by_first f fs e c (same_in f (before k fs) e) (λ l. later_in f (before k fs) e (in_before k fs e d.2 l u))))
      (λ m n p. absurd (too_high m))
      (λ m n p. absurd (too_high m))
    where
      too_high : k ≤ℤ f.hi → ⊥
      too_high m = by_first f fs e c
          (λ q. let hi = ap (λ (x : Entry V). x.hi) q in omega (arith, ints))
          (λ l. let o = later_over f fs e d l in omega (arith, ints, o.0, o.1))

  -- the list does not begin with an entry that would be joined with e
  abbrev IsUnjoined : Entry V → List (Entry V) → Type 0
  IsUnjoined e [] = Unit {0}
  IsUnjoined e (g ∷ gs) = g.lo ≡ e.hi +ℤ pos 1 → eq e.value g.value ≡ false

  unjoined_above : (e : Entry V) (M : List (Entry V)) → IsAbove (e.hi +ℤ pos 1) M → IsUnjoined e M
  unjoined_above e [] a = tt
  unjoined_above e (g ∷ gs) a = λ t. absurd (omega (arith, ints))

  -- In two joined lists: an entry of the first that is not joined with the second, and an entry of the second that is not
  -- joined with the first. The entries of the first that end at b have the value v.
  in_glue_left : (L M : List (Entry V)) (e : Entry V) → Contains L e → IsUnjoined e M → Contains (glue eq L M) e
  in_glue_left [] M e c a = none_in e c
  in_glue_left (f ∷ []) [] e c a = c
  in_glue_left (f ∷ []) (g ∷ gs) e c a = by_first f [] e c
      (λ q. by_join eq f g gs
      (λ t v p. let no : eq f.value g.value ≡ false = subst (λ (x : Entry V). IsUnjoined x (g ∷ gs)) (sym q) a t in cc)
      (λ n p. rw p (same_in f (g ∷ gs) e q)))
      (none_in e)
  in_glue_left (f ∷ h ∷ L) M e c a = by_first f (h ∷ L) e c
      (same_in f (glue eq (h ∷ L) M) e)
      (λ l. later_in f (glue eq (h ∷ L) M) e (in_glue_left (h ∷ L) M e l a))

  abbrev EndsWith : ℤ → V → List (Entry V) → Type 0
  EndsWith b v [] = Unit {0}
  EndsWith b v (f ∷ L) = (f.hi ≡ b → eq f.value v ≡ true) × EndsWith b v L

  ends_with : (laws : IsEquivalence eq) (p : Entry V) (B : List (Entry V)) → p.lo ≤ℤ p.hi → IsBelow p.lo B → EndsWith p.hi p.value (glue eq B (p ∷ []))
  ends_with laws p [] w u = (λ is. laws.refl p.value, tt)
  ends_with laws p (f ∷ []) w u = by_join eq f p []
      (λ t v q. rw q (λ is. v, tt))
      (λ n q. rw q (λ is. absurd (omega (arith, ints, u.0)), (λ is. laws.refl p.value, tt)))
  ends_with laws p (f ∷ h ∷ B) w u = (λ is. absurd (omega (arith, ints, u.0)), ends_with laws p (h ∷ B) w u.1)

  in_glue_right : (laws : IsEquivalence eq) (b : ℤ) (v : V) (L M : List (Entry V)) (e : Entry V) → IsBelow (b +ℤ pos 1) L → EndsWith b v L → Contains M e → b <ℤ e.lo
      → (e.lo ≡ b +ℤ pos 1 → eq v e.value ≡ false) → Contains (glue eq L M) e
  in_glue_right laws b v [] M e l x c u n = c
  in_glue_right laws b v (f ∷ []) [] e l x c u n = none_in e c
  in_glue_right laws b v (f ∷ []) (g ∷ gs) e l x c u n = by_join eq f g gs
      (λ t w p. rw p (by_first g gs e c (λ q. absurd (clash t w q)) (λ m. later_in _ gs e m)))
      (λ m p. rw p (later_in f (g ∷ gs) e c))
    where
      clash : g.lo ≡ f.hi +ℤ pos 1 → eq f.value g.value ≡ true → g ≡ e → ⊥
      clash t w q =
          let lo : g.lo ≡ e.lo = ap (λ (y : Entry V). y.lo) q in
          let hi : f.hi ≡ b = omega (arith, ints, l.0, t, lo, u) in
          let no : eq v e.value ≡ false = n (omega (arith, ints, t, lo, hi)) in
          let like : eq f.value v ≡ true = x.0 hi in
          let along : eq f.value e.value ≡ true = subst (λ (y : Entry V). eq f.value y.value ≡ true) q w in
          let moved : eq f.value e.value ≡ eq v e.value = laws.congr f.value v e.value like in
          cc
  in_glue_right laws b v (f ∷ h ∷ L) M e l x c u n = later_in f (glue eq (h ∷ L) M) e (in_glue_right laws b v (h ∷ L) M e l.1 x.1 c u n)

  -- an entry apart from the painted one remains
  pub kept_apart : (laws : IsEquivalence eq) (p : Entry V) (es above : List (Entry V)) → p.lo ≤ℤ p.hi → IsCanonical eq es → IsAbove p.hi above → IsSameAbove eq p.hi es above
      → (e : Entry V) → Contains es e → IsApartFrom eq p e → Contains (glue eq (glue eq (before p.lo es) (p ∷ [])) above) e
  kept_apart laws p es above w k a s e c (inl u) =
      in_glue_right laws p.hi p.value (glue eq (before p.lo es) (p ∷ [])) above e (below_left eq laws p.lo p.hi p.value es w k) (ends_with laws p (before p.lo es) w (below_before p.lo es))
      (s.kept e c u.below) u.below u.unequal
  kept_apart laws p es above w k a s e c (inr u) =
      in_glue_left (glue eq (before p.lo es) (p ∷ [])) above e
      (in_glue_left (before p.lo es) (p ∷ []) e (in_before p.lo es e k c u.below) u.unequal)
      (unjoined_above e above (above_by p.hi (e.hi +ℤ pos 1) above (omega (arith, ints, u.below)) a))

  module _ (p : Entry V) where
    inside_of : (es : List (Entry V)) (e : Entry V) → Contains es e → IsAlreadyIn eq p e → IsInside eq p.lo p.hi p.value es
    inside_of [] e c i = none_in e c
    inside_of (f ∷ fs) e c i = by_first f fs e c
        (λ q. inl (subst (IsAlreadyIn eq p) (sym q) i))
        (λ l. inr (inside_of fs e l i))

    -- each entry that the paint does not affect remains
    pub kept_alone : (old new : List (Entry V)) → p.lo ≤ℤ p.hi → ((e : Entry V) → Contains old e → IsApartFrom eq p e → Contains new e) → (IsInside eq p.lo p.hi p.value old → new ≡ old)
        → (e : Entry V) → Contains old e → LeavesAlone eq p e → Contains new e
    kept_alone old new w apart inside e c (inl u) = absurd (omega (arith, ints))
    kept_alone old new w apart inside e c (inr (inl u)) = apart e c u
    kept_alone old new w apart inside e c (inr (inr i)) = subst (λ es. Contains es e) (sym (inside (inside_of old e c i))) c
