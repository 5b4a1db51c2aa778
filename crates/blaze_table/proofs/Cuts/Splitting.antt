-- The parts of a list below a key and from it on.
use Rattle.blaze_table.proofs.Words.{◌≡◌, ℕ, ℤ, pos, ◌+ℤ◌, ◌-ℤ◌, ◌≤ℤ◌, ◌<ℤ◌, Bool, true, cond, List, [], ◌∷◌, ◌++◌, None, refl, ◌∙◌, sym, ap, subst, arith, IsEquivalence, ints, by_lt_z, append-nil, lt_true, lt_false, le_true, le_false, same_along, same_itself, Entry, at, SameEntries, entry, IsCanonical, AreKeys, keys_in, before, after, IsBelow, IsSplitOf, IsListSplit, below_at, from_at, IsTable, IsAbove, IsAbove-from_apart, at_before, back, by_before, by_after, before_cuts, after_skips, after_cuts, canonical_before, canonical_after, above_after, at-before_under, at-before_over, at-after_over, canonical_as, content_as, before_past, entries_themselves, before_none, are_keys_before, are_keys_after, are_keys_as, same_keys_in}

module _ {V : Type 0} (eq : V → V → Bool) where
  -- the two parts have all the keys
  pub keys_split : (k : ℤ) (es : List (Entry V)) → IsCanonical eq es → keys_in (before k es) +ℤ keys_in (after (k -ℤ pos 1) es) ≡ keys_in es
  keys_split k [] c = refl
  keys_split k (e ∷ es) c =
      let i = keys_split k es c.2 in
      let a = IsAbove-from_apart eq e es c.1 in
      let here = c.0 in
      by_before k e es
      (λ u p. by_after (k -ℤ pos 1) e es
      (λ m q. rw (p, q) (omega (arith, ints, i)))
      (λ m n q. absurd (omega (arith, ints)))
      (λ m n q. absurd (omega (arith, ints))))
      (λ u v p. by_after (k -ℤ pos 1) e es
      (λ m q. absurd (omega (arith, ints)))
      (λ m n q. rw (p, q) (omega (arith, ints)))
      (λ m n q. absurd (omega (arith, ints))))
      (λ u v p. by_after (k -ℤ pos 1) e es
      (λ m q. absurd (omega (arith, ints)))
      (λ m n q. absurd (omega (arith, ints)))
      (λ m n q. rw (p, q) (omega (arith, ints))))

  module _ (laws : IsEquivalence eq) (k : ℤ) (es below from : List (Entry V)) (c : IsCanonical eq es) (r : IsSplitOf eq k es below from) where
    rest : List (Entry V)
    rest = after (k -ℤ pos 1) es

    below_content : (j : ℤ) → at (before k es) j ≡ below_at k (at es) j
    below_content j = by_lt_z j k
        (λ u. at-before_under eq k j es c u ∙ sym (ap (λ b. cond b (at es j) None) (lt_true j k u)))
        (λ u. at-before_over eq k j es u ∙ sym (ap (λ b. cond b (at es j) None) (lt_false j k u)))

    from_content : (j : ℤ) → at (after (k -ℤ pos 1) es) j ≡ from_at k (at es) j
    from_content j = by_lt_z j k
        (λ u. at_before eq (after (k -ℤ pos 1) es) (k -ℤ pos 1) j (canonical_after eq (k -ℤ pos 1) es c) (above_after (k -ℤ pos 1) es) (omega (arith, ints)) ∙ sym (ap (λ b. cond b (at es j) None) (le_false k j u)))
        (λ u. at-after_over eq (k -ℤ pos 1) j es c (omega (arith, ints)) ∙ sym (ap (λ b. cond b (at es j) None) (le_true k j u)))

    pub is_split : IsListSplit eq k es below from
    is_split = record {
      below_canonical = subst (IsCanonical eq) (sym r.below_is) (canonical_before eq k es c);
      from_canonical = canonical_as eq laws (after (k -ℤ pos 1) es) from r.like (canonical_after eq (k -ℤ pos 1) es c);
      below_content = λ j. same_along eq refl (ap (λ xs. at xs j) r.below_is ∙ below_content j) (same_itself eq laws (at below j));
      from_content = λ j. same_along eq refl (from_content j) (back eq laws (after (k -ℤ pos 1) es) from (content_as eq laws (after (k -ℤ pos 1) es) from r.like) j);
    }

    module _ (low high : ℤ) (n : ℕ) (t : IsTable eq low high n es) where
      pub split_counted : keys_in below +ℤ keys_in from ≡ pos n
      split_counted = omega (arith, ints, t.counted, keys_split k es c, ap keys_in r.below_is, same_keys_in eq (after (k -ℤ pos 1) es) from r.like)

      -- the two parts are tables, with their numbers of keys
      pub split_tables : (m o : ℕ) → pos m ≡ keys_in below → pos o ≡ keys_in from → IsTable eq low high m below × IsTable eq low high o from
      split_tables m o p q = (
        (record {
          canonical = is_split.below_canonical;
          are_keys = subst (AreKeys low high) (sym r.below_is) (are_keys_before eq low high k es t.are_keys);
          counted = p;
        }),
        (record {
          canonical = is_split.from_canonical;
          are_keys = are_keys_as eq low high (after (k -ℤ pos 1) es) from r.like (are_keys_after eq low high (k -ℤ pos 1) es t.are_keys);
          counted = q;
        }),
      )

module _ {V : Type 0} (eq : V → V → Bool) (laws : IsEquivalence eq) (k : ℤ) where
  after_below : (A X : List (Entry V)) → IsBelow k A → after (k -ℤ pos 1) (A ++ X) ≡ after (k -ℤ pos 1) X
  after_below [] X b = refl
  after_below (e ∷ A) X b = after_skips (k -ℤ pos 1) e (A ++ X) (omega (arith, ints, b.0)) ∙ after_below A X b.1

  after_all : (es : List (Entry V)) → IsCanonical eq es → IsAbove (k -ℤ pos 1) es → after (k -ℤ pos 1) es ≡ es
  after_all [] c a = refl
  after_all (e ∷ es) c a = by_after (k -ℤ pos 1) e es (λ h p. absurd (omega (arith, ints, c.0))) (λ h l p. absurd (omega (arith, ints))) (λ h l p. p)

  module _ (A : List (Entry V)) (b : IsBelow k A) where
    -- the key is inside an entry
    pub split_here : (e : Entry V) (C : List (Entry V)) (v : V) → e.lo <ℤ k → k ≤ℤ e.hi → eq e.value v ≡ true → IsSplitOf eq k (A ++ e ∷ C) (A ++ entry e.lo (k -ℤ pos 1) e.value ∷ []) (entry k e.hi v ∷ C)
    split_here e C v l h q = record {
      below_is = sym (before_past k A (e ∷ C) b ∙ ap (λ xs. A ++ xs) (before_cuts k e C h l));
      like = subst (λ xs. SameEntries eq xs (entry k e.hi v ∷ C)) (sym (after_below A (e ∷ C) b ∙ after_cuts (k -ℤ pos 1) e C (omega (arith, ints)) (omega (arith, ints)))) (omega (arith, ints), refl, q, entries_themselves eq laws C);
    }

    -- the key is between entries
    pub split_between : (C : List (Entry V)) → IsCanonical eq C → IsAbove (k -ℤ pos 1) C → IsSplitOf eq k (A ++ C) A C
    split_between C c a = record {
      below_is = sym (before_past k A C b ∙ ap (λ xs. A ++ xs) (before_none eq k C c a) ∙ append-nil A);
      like = subst (λ xs. SameEntries eq xs C) (sym (after_below A C b ∙ after_all C c a)) (entries_themselves eq laws C);
    }
