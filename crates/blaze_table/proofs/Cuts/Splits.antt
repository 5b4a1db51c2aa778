-- Lists whose starts ascend, split at a key.
use Rattle.blaze_table.proofs.Words.{◌≡◌, ℤ, pos, ◌+ℤ◌, ◌≤ℤ◌, ◌<ℤ◌, Bool, cond, List, [], ◌∷◌, ◌++◌, Option, Some, None, refl, ◌∙◌, sym, subst, ap, arith, IsSome, int_le, last_or, ints, by_lt_z, filter-append, StartsAscend, below, from, first_entry, last_below, first_from, start_at, by_order, start_none, StartsBelow, below_takes, from_takes, from_skips, below_none, from_all, from_none, more_below, Entry, entry, IsApart, IsCanonical, after, IsBelow, after_skips, after_cuts, after_keeps, after_past}

pub some_of : {X : Type 0} (o : Option X) → IsSome o → (x : X) × (o ≡ Some x)
some_of None h = cc
some_of (Some x) h = (x, refl)

module _ {V : Type 0} where
  -- the last entry that starts below k, and the entries before and after it
  pub record LastAt (k high : ℤ) (e : Entry V) (es : List (Entry V)) : Type 0 where
    pub front : List (Entry V)
    pub back : List (Entry V)
    pub parts : es ≡ front ++ e ∷ back
    pub starts : e.lo <ℤ k
    pub front_below : StartsBelow e.lo front
    pub back_from : StartsAscend k high back

  empty_below : (k b high : ℤ) (es : List (Entry V)) → StartsAscend b high es → below k es ≡ [] → StartsAscend k high es
  empty_below k b high [] h n = tt
  empty_below k b high (e ∷ es) h n = by_lt_z e.lo k
      (λ l. let q : e ∷ below k es ≡ [] = sym (below_takes k e es l) ∙ n in cc)
      (λ l. (l, h.1, h.2))

  pub no_last : (k b high : ℤ) (es : List (Entry V)) → StartsAscend b high es → last_below k es ≡ None → below k es ≡ []
  no_last k b high es h n = none_in (below k es) n
    where
      some_in : (e : Entry V) (xs : List (Entry V)) → last_or (Some e) xs ≡ None → ⊥
      some_in e [] n = cc
      some_in e (x ∷ xs) n = some_in x xs n

      none_in : (xs : List (Entry V)) → last_or None xs ≡ None → xs ≡ []
      none_in [] n = refl
      none_in (x ∷ xs) n = absurd (some_in x xs n)

  pub no_last_from : (k b high : ℤ) (es : List (Entry V)) → StartsAscend b high es → last_below k es ≡ None → StartsAscend k high es
  no_last_from k b high es h n = empty_below k b high es h (no_last k b high es h n)

  pub last_at : (k b high : ℤ) (e : Entry V) (es : List (Entry V)) → StartsAscend b high es → last_below k es ≡ Some e → LastAt k high e es
  last_at k b high e [] h n = absurd (no_some n)
    where
      no_some : None ≡ Some e → ⊥
      no_some p = cc
  last_at k b high e (f ∷ fs) h n = by_lt_z f.lo k
      (λ l. here (last_at k (f.lo +ℤ pos 1) high e fs h.2) (below k fs) refl l (sym (ap (last_or None) (below_takes k f fs l)) ∙ n))
      (λ l. absurd (no_some (sym (ap (last_or None) (below_none k f.lo high (f ∷ fs) l (omega (arith, ints), h.1, h.2))) ∙ n)))
    where
      no_some : None ≡ Some e → ⊥
      no_some p = cc

      here : (last_below k fs ≡ Some e → LastAt k high e fs) → (ys : List (Entry V)) → below k fs ≡ ys → f.lo <ℤ k → last_or (Some f) ys ≡ Some e → LastAt k high e (f ∷ fs)
      here later [] q l p =
          let same : f ≡ e = cc in
          record {
            front = [];
            back = fs;
            parts = ap (λ x. x ∷ fs) same;
            starts = subst (λ (x : Entry V). x.lo <ℤ k) same l;
            front_below = tt;
            back_from = empty_below k (f.lo +ℤ pos 1) high fs h.2 q;
          }
      here later (y ∷ ys) q l p =
          let r = later (ap (last_or None) q ∙ p) in
          record {
            front = f ∷ r.front;
            back = r.back;
            parts = ap (λ t. f ∷ t) r.parts;
            starts = r.starts;
            front_below = (above_first fs r.front e r.back r.parts h.2, r.front_below);
            back_from = r.back_from;
          }
        where
          in_front : (b : ℤ) (xs ys : List (Entry V)) (x : Entry V) → StartsAscend b high (xs ++ x ∷ ys) → b ≤ℤ x.lo
          in_front b [] ys x s = s.0
          in_front b (z ∷ xs) ys x s = let r = in_front (z.lo +ℤ pos 1) xs ys x s.2 in omega (arith, ints, s.0)

          above_first : (gs xs : List (Entry V)) (x : Entry V) (zs : List (Entry V)) → gs ≡ xs ++ x ∷ zs → StartsAscend (f.lo +ℤ pos 1) high gs → f.lo <ℤ x.lo
          above_first gs xs x zs q s = let r = in_front (f.lo +ℤ pos 1) xs zs x (subst (StartsAscend (f.lo +ℤ pos 1) high) q s) in omega (arith, ints)

  -- the first entry from k on exists
  pub first_there : (k b high : ℤ) (e : Entry V) (es : List (Entry V)) → StartsAscend b high es → first_from k es ≡ Some e → (k ≤ℤ e.lo) × (start_at e.lo es ≡ Some e) × (from k es ≡ from e.lo es)
  first_there k b high e [] h n = absurd (no_some n)
    where
      no_some : None ≡ Some e → ⊥
      no_some p = cc
  first_there k b high e (f ∷ fs) h n = by_lt_z f.lo k
      (λ l.
      let r = first_there k (f.lo +ℤ pos 1) high e fs h.2 (sym (ap first_entry (from_skips k f fs l)) ∙ n) in
      let up = r.0 in
      by_order e.lo f.lo
      (λ o q t. absurd (omega (arith, ints)))
      (λ o q t. absurd (omega (arith, ints)))
      (λ o q t. (r.0, rw t r.1, rw (from_skips k f fs l, from_skips e.lo f fs o) r.2)))
      (λ l.
      let same : f ≡ e = some_same (sym (ap first_entry (from_takes k f fs l)) ∙ n) in
      subst (λ (x : Entry V). (k ≤ℤ x.lo) × (start_at x.lo (f ∷ fs) ≡ Some x) × (from k (f ∷ fs) ≡ from x.lo (f ∷ fs))) same (
        l,
        by_order f.lo f.lo (λ o q t. absurd (omega (arith, ints))) (λ o q t. rw t refl) (λ o q t. absurd (omega (arith, ints))),
        from_all k f.lo high (f ∷ fs) l (omega (arith, ints), h.1, h.2) ∙ sym (from_all f.lo f.lo high (f ∷ fs) (omega (arith, ints)) (omega (arith, ints), h.1, h.2)),
      ))
    where
      some_same : Some f ≡ Some e → f ≡ e
      some_same p = cc

  -- the entries from k on, by whether one starts at k
  pub from_at : (k b high : ℤ) (e : Entry V) (es : List (Entry V)) → StartsAscend b high es → start_at k es ≡ Some e → (e.lo ≡ k) × (from k es ≡ e ∷ from (k +ℤ pos 1) es)
  from_at k b high e [] h n = absurd (no_some n)
    where
      no_some : None ≡ Some e → ⊥
      no_some p = cc
  from_at k b high e (f ∷ fs) h n = by_order k f.lo
      (λ o q r. absurd (no_some (sym (start_none k (f.lo +ℤ pos 1) high fs (omega (arith, ints)) h.2) ∙ (sym (ap (λ t. cond t (Some f) (start_at k fs)) r) ∙ n))))
      (λ o q r.
      let same : f ≡ e = some_same (sym (ap (λ t. cond t (Some f) (start_at k fs)) r) ∙ n) in (
        subst (λ (x : Entry V). x.lo ≡ k) same (sym o),
        rw (from_takes k f fs (omega (arith, ints)), from_skips (k +ℤ pos 1) f fs (omega (arith, ints)), from_all k (f.lo +ℤ pos 1) high fs (omega (arith, ints)) h.2, from_all (k +ℤ pos 1) (f.lo +ℤ pos 1) high fs (omega (arith, ints)) h.2) (ap (λ x. x ∷ fs) same),
      ))
      (λ o q r.
      let i = from_at k (f.lo +ℤ pos 1) high e fs h.2 (sym (ap (λ t. cond t (Some f) (start_at k fs)) r) ∙ n) in
      (i.0, rw (from_skips k f fs o, from_skips (k +ℤ pos 1) f fs (omega (arith, ints))) i.1))
    where
      no_some : None ≡ Some e → ⊥
      no_some p = cc

      some_same : Some f ≡ Some e → f ≡ e
      some_same p = cc

module _ {V : Type 0} (eq : V → V → Bool) where
  -- in a canonical list, the entries before an entry end below it
  pub ends_below : (xs : List (Entry V)) (e : Entry V) (ys : List (Entry V)) → IsCanonical eq (xs ++ e ∷ ys) → IsBelow e.lo xs
  ends_below [] e ys c = tt
  ends_below (x ∷ []) e ys c = (c.1.0, tt)
  ends_below (x ∷ y ∷ xs) e ys c = let r = ends_below (y ∷ xs) e ys c.2 in (omega (arith, ints, c.1.0, c.2.0, r.0), r)

  pub canonical_part : (xs ys : List (Entry V)) → IsCanonical eq (xs ++ ys) → IsCanonical eq ys
  canonical_part [] ys c = c
  canonical_part (x ∷ xs) ys c = canonical_part xs ys c.2

  -- an entry that starts above k has no key up to k
  pub after_from : (k b high : ℤ) (es : List (Entry V)) → k <ℤ b → StartsAscend b high es → IsCanonical eq es → after k es ≡ es
  after_from k b high [] l h c = refl
  after_from k b high (e ∷ es) l h c = after_keeps k e es (omega (arith, ints, h.0, c.0)) (omega (arith, ints, h.0))

  -- the part above k, by the last entry that starts up to k
  module _ (k high : ℤ) (e : Entry V) (es : List (Entry V)) (r : LastAt (k +ℤ pos 1) high e es) (c : IsCanonical eq es) where
    abbrev pub parted : IsCanonical eq (r.front ++ e ∷ r.back)
    parted = subst (IsCanonical eq) r.parts c

    pub rest_canonical : IsCanonical eq (e ∷ r.back)
    rest_canonical = canonical_part r.front (e ∷ r.back) parted

    pub back_is : from (k +ℤ pos 1) es ≡ r.back
    back_is = ap (from (k +ℤ pos 1)) r.parts ∙ filter-append (λ x. int_le (k +ℤ pos 1) x.lo) r.front (e ∷ r.back)
        ∙ ap (λ l. l ++ from (k +ℤ pos 1) (e ∷ r.back)) (from_none (k +ℤ pos 1) r.front (more_below e.lo (k +ℤ pos 1) r.front (omega (arith, ints, r.starts)) r.front_below))
        ∙ from_skips (k +ℤ pos 1) e r.back r.starts ∙ from_all (k +ℤ pos 1) (k +ℤ pos 1) high r.back (omega (arith, ints)) r.back_from

    to_last : after k es ≡ after k (e ∷ r.back)
    to_last = ap (after k) r.parts ∙ after_past e.lo k r.front (e ∷ r.back) (omega (arith, ints, r.starts)) (ends_below r.front e r.back parted)

    pub after_short : e.hi ≤ℤ k → after k es ≡ from (k +ℤ pos 1) es
    after_short u = to_last ∙ after_skips k e r.back u ∙ after_from k (k +ℤ pos 1) high r.back (omega (arith, ints)) r.back_from rest_canonical.2 ∙ sym back_is

    pub after_long : k <ℤ e.hi → after k es ≡ entry (k +ℤ pos 1) e.hi e.value ∷ from (k +ℤ pos 1) es
    after_long u = to_last ∙ after_cuts k e r.back u (omega (arith, ints, r.starts)) ∙ ap (λ t. entry (k +ℤ pos 1) e.hi e.value ∷ t) (sym back_is)

    -- if the last entry extends above k, none starts right above k
    pub none_next : (b : ℤ) → StartsAscend b high es → k <ℤ e.hi → start_at (k +ℤ pos 1) es ≡ None
    none_next b h u = not_found (start_at (k +ℤ pos 1) es) refl
      where
        first_over : (ys : List (Entry V)) (f : Entry V) (fs : List (Entry V)) → IsApart eq e ys → ys ≡ f ∷ fs → e.hi <ℤ f.lo
        first_over [] f fs a q = cc
        first_over (y ∷ ys) f fs a q = let same : y ≡ f = cc in subst (λ (x : Entry V). e.hi <ℤ x.lo) same a.0

        not_found : (o : Option (Entry V)) → start_at (k +ℤ pos 1) es ≡ o → start_at (k +ℤ pos 1) es ≡ None
        not_found None q = q
        not_found (Some f) q =
            let i = from_at (k +ℤ pos 1) b high f es h q in
            let over = first_over r.back f (from (k +ℤ pos 1 +ℤ pos 1) es) rest_canonical.1 (sym back_is ∙ i.1) in
            let here = i.0 in
            absurd (omega (arith, ints))

  -- if no entry starts up to k, the whole list is above k
  pub after_none : (k b high : ℤ) (es : List (Entry V)) → StartsAscend b high es → IsCanonical eq es → last_below (k +ℤ pos 1) es ≡ None → after k es ≡ from (k +ℤ pos 1) es
  after_none k b high es h c n =
      let f = no_last_from (k +ℤ pos 1) b high es h n in
      after_from k (k +ℤ pos 1) high es (omega (arith, ints)) f c ∙ sym (from_all (k +ℤ pos 1) (k +ℤ pos 1) high es (omega (arith, ints)) f)
