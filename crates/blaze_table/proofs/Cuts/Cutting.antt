-- A list without a range of keys, from its parts.
use Rattle.blaze_table.proofs.Words.{option_or, ◌≡◌, ◌⊎◌, inl, inr, ℕ, ℤ, pos, ◌+ℤ◌, ◌≤ℤ◌, ◌<ℤ◌, Bool, false, cond, List, [], ◌∷◌, ◌++◌, Option, Some, None, refl, ◌∙◌, sym, ap, subst, arith, IsEquivalence, Contains, Contains-append_left, int_eq, ints, by_lt_z, and_left, eq_true, le_true, le_false, same_along, same_trans, same_or_right, Entry, at, SameOption, entry, IsCanonical, AreKeys, keys_in, before, after, glue, IsBelow, IsListWithoutRange, IsListWithoutKey, IsTableCut, overlap, covered_keys, cut_at, cut_range_at, IsRangeCut, IsTable, overlap_none, IsAbove, above_rest, at_in, at_over, at_before, above_by, range_map, back, in_before, by_before, after_skips, by_after, canonical_glue, canonical_before, canonical_after, at_glue, above_after, below_before, at-before_under, at-before_over, at-after_over, below_more, entries_themselves, canonical_as, above_as, content_as, keys_apart, covered_none, overlap_most, keys_glue, are_keys_glue, are_keys_before, are_keys_after, are_keys_as, same_keys_in, cut_inside, cut_outside}

module _ {V : Type 0} (eq : V → V → Bool) where
  pub after_all : (k : ℤ) (es : List (Entry V)) → IsCanonical eq es → IsAbove k es → after k es ≡ es
  after_all k [] c a = refl
  after_all k (e ∷ es) c a = by_after k e es (λ h p. absurd (omega (arith, ints, c.0))) (λ h l p. absurd (omega (arith, ints))) (λ h l p. p)

  -- the part above the end of the first entry is the other entries
  pub after_whole : (k : ℤ) (e : Entry V) (es : List (Entry V)) → IsCanonical eq (e ∷ es) → e.hi ≤ℤ k → k ≤ℤ e.hi → after k (e ∷ es) ≡ es
  after_whole k e es c h l = after_skips k e es h ∙ after_all k es c.2 (above_rest eq k e es l c)

  -- lists that do not touch are glued without a join
  glue_apart : (k : ℤ) (L M : List (Entry V)) → IsBelow k L → IsAbove k M → glue eq L M ≡ L ++ M
  glue_apart k [] M l m = refl
  glue_apart k (e ∷ []) [] l m = refl
  glue_apart k (e ∷ []) (f ∷ fs) l m = ap (λ b. cond b (entry e.lo f.hi e.value ∷ fs) (e ∷ f ∷ fs)) (and_left _ (eq e.value f.value) (apart_false f.lo (e.hi +ℤ pos 1) (omega (arith, ints, l.0))))
    where
      apart_false : (a b : ℤ) → b <ℤ a → int_eq a b ≡ false
      apart_false a b h = grind (arith, ints)
  glue_apart k (e ∷ f ∷ L) M l m = ap (λ xs. e ∷ xs) (glue_apart k (f ∷ L) M l.1 m)

  -- no value at the keys from l to h
  pub halves : (l h : ℤ) → l ≤ℤ h → (es : List (Entry V)) → IsCanonical eq es → ((j : ℤ) → l ≤ℤ j → j ≤ℤ h → at es j ≡ None) → es ≡ before l es ++ after h es
  halves l h w [] c n = refl
  halves l h w (e ∷ es) c n =
      let here = c.0 in
      by_before l e es
      (λ u p. rw p (ap (λ xs. e ∷ xs) (halves l h w es c.2 (λ j a b. sym (at_over e es j (omega (arith, ints))) ∙ n j a b)) ∙ ap (λ xs. e ∷ before l es ++ xs) (sym (after_skips h e es (omega (arith, ints))))))
      (λ u v p. absurd (some_none e.value (sym (at_in e es l (omega (arith, ints)) u) ∙ n l (omega (arith, ints)) w)))
      (λ u v p. rw p (by_lt_z h e.lo
      (λ m. sym (after_all h (e ∷ es) c m))
      (λ m. absurd (some_none e.value (sym (at_in e es e.lo (omega (arith, ints)) here) ∙ n e.lo v m)))))
    where
      some_none : (v : V) → Some v ≡ None → ⊥
      some_none v p = cc

  pub cut_nothing : IsEquivalence eq → (l h : ℤ) → l ≤ℤ h → (es : List (Entry V)) → IsCanonical eq es → ((j : ℤ) → l ≤ℤ j → j ≤ℤ h → at es j ≡ None) → IsListWithoutRange eq l h es es
  cut_nothing laws l h w es c n = record {
    above = after h es;
    like = entries_themselves eq laws (after h es);
    joined = halves l h w es c n;
  }

  -- the value at a key of the range e
  pub at_cut : (k : ℤ) (A : List (Entry V)) → IsBelow k A → (e : Entry V) (C : List (Entry V)) → e.lo ≤ℤ k → k ≤ℤ e.hi → at (A ++ e ∷ C) k ≡ Some e.value
  at_cut k [] b e C l h = at_in e C k l h
  at_cut k (x ∷ A) b e C l h = at_over x (A ++ e ∷ C) k b.0 ∙ at_cut k A b.1 e C l h

module _ {V : Type 0} (eq : V → V → Bool) (laws : IsEquivalence eq) (l h : ℤ) (w : l ≤ℤ h) (es new : List (Entry V)) (c : IsCanonical eq es) (r : IsListWithoutRange eq l h es new) where
  above_is : IsCanonical eq r.above
  above_is = canonical_as eq laws (after h es) r.above r.like (canonical_after eq h es c)

  over : IsAbove h r.above
  over = above_as eq laws h (after h es) r.above r.like (above_after h es)

  new_is : new ≡ glue eq (before l es) r.above
  new_is = r.joined ∙ sym (glue_apart eq l (before l es) r.above (below_before l es) (above_by h l r.above w over))

  pub cut_canonical : IsCanonical eq new
  cut_canonical = subst (IsCanonical eq) (sym new_is) (canonical_glue eq laws h (before l es) r.above (canonical_before eq l es c) above_is (below_more l (h +ℤ pos 1) (before l es) (omega (arith, ints)) (below_before l es)) over)

  two : (j : ℤ) → option_or (at (before l es) j) (at (after h es) j) ≡ cut_range_at l h (at es) j
  two j = by_lt_z j l
      (λ u. rw (at-before_under eq l j es c u, le_false l j u) (or_last (at es j) (at (after h es) j) (at_before eq (after h es) h j (canonical_after eq h es c) (above_after h es) (omega (arith, ints)))))
      (λ u. rw (at-before_over eq l j es u, le_true l j u) (by_lt_z h j
      (λ m. rw (le_false j h m) (at-after_over eq h j es c m))
      (λ m. rw (le_true j h m) (at_before eq (after h es) h j (canonical_after eq h es c) (above_after h es) m))))
    where
      or_last : (a b : Option V) → b ≡ None → option_or a b ≡ a
      or_last None b p = p
      or_last (Some x) b p = refl

  pub range_cut_content : (j : ℤ) → SameOption eq (at new j) (cut_range_at l h (at es) j)
  range_cut_content j =
      same_along eq (sym (ap (λ xs. at xs j) new_is)) refl
      (same_trans eq laws (at (glue eq (before l es) r.above) j) (option_or (at (before l es) j) (at r.above j)) (cut_range_at l h (at es) j)
      (at_glue eq laws (before l es) r.above j (canonical_before eq l es c) above_is)
      (same_along eq refl (two j) (same_or_right eq laws (at (before l es) j) (at r.above j) (at (after h es) j) (back eq laws (after h es) r.above (content_as eq laws (after h es) r.above r.like) j))))

  pub cut_keys : keys_in new +ℤ covered_keys l h es ≡ keys_in es
  cut_keys = ap (λ xs. keys_in xs +ℤ covered_keys l h es) new_is ∙ omega (arith, ints, keys_glue eq (before l es) r.above, same_keys_in eq (after h es) r.above r.like, keys_apart eq l h es w c)

  pub cut_table : (low high : ℤ) (n m : ℕ) → IsTable eq low high n es → pos m +ℤ covered_keys l h es ≡ pos n → IsTable eq low high m new
  cut_table low high n m t p = record {
    canonical = cut_canonical;
    are_keys = subst (AreKeys low high) (sym new_is) (are_keys_glue eq low high (before l es) r.above (are_keys_before eq low high l es t.are_keys) (are_keys_as eq low high (after h es) r.above r.like (are_keys_after eq low high h es t.are_keys)));
    counted = omega (arith, ints, cut_keys, t.counted);
  }

-- a single key
module _ {V : Type 0} (k : ℤ) (content : ℤ → Option V) where
  cut_one : (j : ℤ) → cut_range_at k k content j ≡ cut_at k content j
  cut_one j = by_lt_z j k
      (λ u. rw (le_false k j u, int_eq_no j k (λ e. omega (arith, ints))) refl)
      (λ u. rw (le_true k j u) (by_lt_z k j
      (λ m. rw (le_false j k m, int_eq_no j k (λ e. omega (arith, ints))) refl)
      (λ m. rw (le_true j k m, eq_true j k (omega (arith, ints))) refl)))
    where
      int_eq_no : (a b : ℤ) → (a ≡ b → ⊥) → int_eq a b ≡ false
      int_eq_no a b h = grind (arith, ints)

pub cut_content : {V : Type 0} (eq : V → V → Bool) (laws : IsEquivalence eq) (k : ℤ) (es new : List (Entry V)) → IsCanonical eq es → IsListWithoutKey eq k es new → (j : ℤ) → SameOption eq (at new j) (cut_at k (at es) j)
cut_content eq laws k es new c r j = same_along eq refl (cut_one k (at es) j) (range_cut_content eq laws k k (omega (arith, ints)) es new c r j)

-- no entry contains the key
pub key_absent : {V : Type 0} (eq : V → V → Bool) (laws : IsEquivalence eq) (k : ℤ) (es : List (Entry V)) → IsCanonical eq es → at es k ≡ None → (j : ℤ) → SameOption eq (at es j) (cut_at k (at es) j)
key_absent eq laws k es c n = cut_content eq laws k es es c (cut_nothing eq laws k k (omega (arith, ints)) es c (λ j a b. ap (at es) (same j a b) ∙ n))
  where
    same : (j : ℤ) → k ≤ℤ j → j ≤ℤ k → j ≡ k
    same j a b = omega (arith, ints)

module _ {V : Type 0} (eq : V → V → Bool) (l h : ℤ) where
  -- only the entry e has keys from l to h
  pub covered_past : (w : l ≤ℤ h) (A : List (Entry V)) → IsBelow l A → (e : Entry V) (C : List (Entry V)) → IsCanonical eq (A ++ e ∷ C) → IsAbove h C → covered_keys l h (A ++ e ∷ C) ≡ overlap l h e
  covered_past w [] b e C c a = omega (arith, ints, covered_none eq l h C c.2 a)
  covered_past w (x ∷ A) b e C c a = omega (arith, ints, overlap_none l h x c.0 b.0, covered_past w A b.1 e C c.2 a)

  pub covered_fits : (es : List (Entry V)) → IsCanonical eq es → covered_keys l h es ≤ℤ keys_in es
  covered_fits [] c = omega (arith, ints)
  covered_fits (e ∷ es) c = omega (arith, ints, overlap_most l h e c.0, covered_fits es c.2)

-- the effect of the cut on a range map
pub range_cut_map : {V : Type 0} (eq : V → V → Bool) (laws : IsEquivalence eq) (low high : ℤ) (n : ℕ) (l h : ℤ) → l ≤ℤ h → (old new : List (Entry V)) → IsCanonical eq old → IsTableCut eq low high n l h old new → IsRangeCut eq low high l h old new
range_cut_map {V} eq laws low high n l h w old new c r = record {
  range_map = range_map eq laws low high n new r.table;
  content = content;
  inside = cut_inside eq old new l h content;
  outside = cut_outside eq old new l h content;
  kept = kept;
}
  where
    content : (j : ℤ) → SameOption eq (at new j) (cut_range_at l h (at old) j)
    content = range_cut_content eq laws l h w old new c r.taken.cut

    kept : (e : Entry V) → Contains old e → (e.hi <ℤ l) ⊎ (h <ℤ e.lo) → Contains new e
    kept e i (inl u) = subst (λ xs. Contains xs e) (sym r.taken.cut.joined) (Contains-append_left (before l old) r.taken.cut.above e (in_before eq l old e c i u))
    kept e i (inr u) = r.taken.kept e i u
