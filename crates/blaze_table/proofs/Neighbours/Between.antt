-- The gap between two neighbours.
use Rattle.blaze_table.proofs.Words.{◌≡◌, ℤ, pos, ◌+ℤ◌, ◌-ℤ◌, ◌≤ℤ◌, ◌<ℤ◌, Bool, cond, List, [], ◌∷◌, ◌++◌, Option, Some, None, refl, ◌∙◌, sym, ap, subst, arith, inl, inr, int_lt, IsSome, ◌⊎◌, find, ints, by_lt_z, lt_true, lt_false, StartsAscend, last_below, Entry, at, IsCanonical, IsGap, IsClearFrom, IsBelow, at_in, at_under, at_over}
use Rattle.blaze_table.proofs.Neighbours.NextEntries.{last, front_ends}
use Rattle.blaze_table.proofs.Cuts.Splits.{LastAt, no_last_from, canonical_part}

none_some : {X : Type 0} (o : Option X) → o ≡ None → IsSome o → ⊥
none_some None e s = cc
none_some (Some x) e s = cc

module _ {V : Type 0} (content : ℤ → Option V) where
  -- an interval without values that cannot grow
  pub gap_is : (low high k a b : ℤ) → low ≤ℤ a → b ≤ℤ high → a ≤ℤ k → k ≤ℤ b → IsClearFrom content a b
      → (a ≡ low) ⊎ IsSome (content (a -ℤ pos 1)) → (b ≡ high) ⊎ IsSome (content (b +ℤ pos 1)) → IsGap low high content k a b
  gap_is low high k a b f t s e clear least greatest = record {
    from = f;
    to = t;
    starts = s;
    ends = e;
    clear = clear;
    greatest = λ c d l m n h none. (first c d l m n none least, last c d m n h none greatest);
  }
    where
      first : (c d : ℤ) → low ≤ℤ c → c ≤ℤ k → k ≤ℤ d → IsClearFrom content c d → (a ≡ low) ⊎ IsSome (content (a -ℤ pos 1)) → a ≤ℤ c
      first c d l m n none (inl p) = omega (arith, ints)
      first c d l m n none (inr p) = by_lt_z c a (λ u. absurd (none_some (content (a -ℤ pos 1)) (none (a -ℤ pos 1) (omega (arith, ints)) (omega (arith, ints))) p)) (λ u. u)

      last : (c d : ℤ) → c ≤ℤ k → k ≤ℤ d → d ≤ℤ high → IsClearFrom content c d → (b ≡ high) ⊎ IsSome (content (b +ℤ pos 1)) → d ≤ℤ b
      last c d m n h none (inl p) = omega (arith, ints)
      last c d m n h none (inr p) = by_lt_z b d (λ u. absurd (none_some (content (b +ℤ pos 1)) (none (b +ℤ pos 1) (omega (arith, ints)) (omega (arith, ints))) p)) (λ u. u)

-- two intervals without values that meet at a key
pub clear_both : {V : Type 0} (content : ℤ → Option V) (k a b : ℤ) → IsClearFrom content a k → IsClearFrom content k b → IsClearFrom content a b
clear_both content k a b l r j m n = by_lt_z j k (λ u. l j m (omega (arith, ints))) (λ u. r j u n)

some_by : {X : Type 0} (o : Option X) (x : X) → o ≡ Some x → IsSome o
some_by (Some y) x e = refl
some_by None x e = cc

module _ {V : Type 0} where
  -- no key below the first start has a value
  at_none : (k b high : ℤ) (es : List (Entry V)) → k <ℤ b → StartsAscend b high es → at es k ≡ None
  at_none k b high [] l h = refl
  at_none k b high (e ∷ es) l h = at_under e es k (omega (arith, ints, h.0)) ∙ at_none k (e.lo +ℤ pos 1) high es (omega (arith, ints, h.0)) h.2

  at_past : (k b : ℤ) (xs ys : List (Entry V)) → b ≤ℤ k → IsBelow b xs → at (xs ++ ys) k ≡ at ys k
  at_past k b [] ys l h = refl
  at_past k b (x ∷ xs) ys l h = at_over x (xs ++ ys) k (omega (arith, ints, h.0)) ∙ at_past k b xs ys l h.1

  -- an entry that starts up to a key without a value ends below it
  ends_before : (k : ℤ) (e : Entry V) (es : List (Entry V)) → at (e ∷ es) k ≡ None → e.lo ≤ℤ k → e.hi <ℤ k
  ends_before k e es n l = by_lt_z e.hi k (λ h. h) (λ h. absurd (none_some (at (e ∷ es) k) n (some_by (at (e ∷ es) k) e.value (at_in e es k l h))))

  -- the first entry that starts above a key without a value, and the keys between
  pub record IsAboveGap (k : ℤ) (es : List (Entry V)) (o : Option (Entry V)) : Type 0 where
    pub none : o ≡ None → (j : ℤ) → k ≤ℤ j → at es j ≡ None
    pub clear : (e : Entry V) → o ≡ Some e → (j : ℤ) → k ≤ℤ j → j <ℤ e.lo → at es j ≡ None
    pub starts : (e : Entry V) → o ≡ Some e → k <ℤ e.lo
    pub there : (e : Entry V) → o ≡ Some e → IsSome (at es e.lo)

module _ {V : Type 0} (eq : V → V → Bool) where
  pub above_gap : (k b high : ℤ) (es : List (Entry V)) → IsCanonical eq es → StartsAscend b high es → at es k ≡ None → IsAboveGap k es (find (λ e. int_lt k e.lo) es)
  above_gap k b high [] c a n = record {
    none = λ p j l. refl;
    clear = λ e p. cc;
    starts = λ e p. cc;
    there = λ e p. cc;
  }
  above_gap k b high (e ∷ es) c a n = by_lt_z k e.lo
      (λ l. subst (IsAboveGap k (e ∷ es)) (sym (ap (λ t. cond t (Some e) (find (λ x. int_lt k x.lo) es)) (lt_true k e.lo l)))
      (record {
        none = λ p. cc;
        clear = λ f p j m u. let same : e ≡ f = cc in at_none j e.lo high (e ∷ es) (subst (λ (x : Entry V). j <ℤ x.lo) (sym same) u) (omega (arith, ints), a.1, a.2);
        starts = λ f p. let same : e ≡ f = cc in subst (λ (x : Entry V). k <ℤ x.lo) same l;
        there = λ f p. let same : e ≡ f = cc in subst (λ (x : Entry V). IsSome (at (e ∷ es) x.lo)) same (some_by (at (e ∷ es) e.lo) e.value (at_in e es e.lo (omega (arith, ints)) c.0));
      }))
      (λ l.
      let u = ends_before k e es n l in
      let i = above_gap k (e.lo +ℤ pos 1) high es c.2 a.2 (sym (at_over e es k u) ∙ n) in
      subst (IsAboveGap k (e ∷ es)) (sym (ap (λ t. cond t (Some e) (find (λ x. int_lt k x.lo) es)) (lt_false k e.lo l)))
      (record {
        none = λ p j m. at_over e es j (omega (arith, ints)) ∙ i.none p j m;
        clear = λ f p j m v. at_over e es j (omega (arith, ints)) ∙ i.clear f p j m v;
        starts = i.starts;
        there = λ f p. let s = i.starts f p in subst IsSome (sym (at_over e es f.lo (omega (arith, ints)))) (i.there f p);
      }))

  module _ (k b high : ℤ) (es : List (Entry V)) (c : IsCanonical eq es) (a : StartsAscend b high es) (n : at es k ≡ None) where
    -- no entry starts up to the key
    pub below_clear : None ≡ last_below (k +ℤ pos 1) es → (j : ℤ) → j ≤ℤ k → at es j ≡ None
    below_clear p j l = at_none j (k +ℤ pos 1) high es (omega (arith, ints)) (no_last_from (k +ℤ pos 1) b high es a (sym p))

    -- the last entry that starts up to the key, and the keys between
    module _ (e : Entry V) (is : Some e ≡ last_below (k +ℤ pos 1) es) where
      abbrev parts : LastAt (k +ℤ pos 1) high e es
      parts = last eq k b high es c a e is

      here : (j : ℤ) → e.lo ≤ℤ j → at es j ≡ at (e ∷ parts.back) j
      here j l = ap (λ x. at x j) parts.parts ∙ at_past j e.lo parts.front (e ∷ parts.back) l (front_ends eq k b high es c a e is)

      pub below_ends : e.hi <ℤ k
      below_ends = ends_before k e parts.back (sym (here k (omega (arith, ints, parts.starts))) ∙ n) (omega (arith, ints, parts.starts))

      ordered : e.lo ≤ℤ e.hi
      ordered = (canonical_part eq parts.front (e ∷ parts.back) (subst (IsCanonical eq) parts.parts c)).0

      pub between : (j : ℤ) → e.hi <ℤ j → j ≤ℤ k → at es j ≡ None
      between j l m = here j (omega (arith, ints, ordered)) ∙ at_over e parts.back j l ∙ at_none j (k +ℤ pos 1) high parts.back (omega (arith, ints)) parts.back_from

      pub below_there : IsSome (at es e.hi)
      below_there = some_by (at es e.hi) e.value (here e.hi ordered ∙ at_in e parts.back e.hi ordered (omega (arith, ints)))
