-- Entries are removed between two keys, and the parts of parts of a list.
use Rattle.blaze_table.proofs.Words.{◌≡◌, ◌≤◌, ℤ, pos, ◌+ℤ◌, ◌≤ℤ◌, ◌<ℤ◌, cond, List, [], ◌∷◌, length, drop, Option, Some, None, refl, ◌∙◌, sym, subst, ap, arith, IsSome, int_lt, int_le, option_map, ints, by_lt_z, lt_true, lt_false, le_true, le_false, range_in, StartsAscend, below, from, first_entry, first_from, start_at, without, by_order, absent_next, from_takes, from_skips, Entry}
use Rattle.blaze_table.proofs.Cuts.Splits.{first_there}
use Rattle.blaze_entries.proofs.EditLists.{below_without}

module _ {V : Type 0} where
  pub from_from : (j k : ℤ) (es : List (Entry V)) → j ≤ℤ k → from k (from j es) ≡ from k es
  from_from j k [] l = refl
  from_from j k (e ∷ es) l = by_lt_z e.lo j
      (λ m. rw (le_false j e.lo m, le_false k e.lo (omega (arith, ints))) (from_from j k es l))
      (λ m. rw (le_true j e.lo m) (ap (λ t. cond (int_le k e.lo) (e ∷ t) t) (from_from j k es l)))

  pub below_below : (j k : ℤ) (es : List (Entry V)) → j ≤ℤ k → below j (below k es) ≡ below j es
  below_below j k [] l = refl
  below_below j k (e ∷ es) l = by_lt_z e.lo k
      (λ m. rw (lt_true e.lo k m) (ap (λ t. cond (int_lt e.lo j) (e ∷ t) t) (below_below j k es l)))
      (λ m. rw (lt_false e.lo k m, lt_false e.lo j (omega (arith, ints))) (below_below j k es l))

  pub below_from : (j k : ℤ) (es : List (Entry V)) → j ≤ℤ k → below j (from k es) ≡ []
  below_from j k [] l = refl
  below_from j k (e ∷ es) l = by_lt_z e.lo k
      (λ m. rw (le_false k e.lo m) (below_from j k es l))
      (λ m. rw (le_true k e.lo m, lt_false e.lo j (omega (arith, ints))) (below_from j k es l))

  -- an entry whose ends are known
  pub started : (s t : ℤ) (o : Option (Entry V)) → Some (s, t) ≡ option_map range_in o → (e : Entry V) × ((o ≡ Some e) × (e.lo ≡ s))
  started s t None p = cc
  started s t (Some e) p = let q : (s, t) ≡ range_in e = cc in (e, (refl, sym (ap (λ (x : ℤ × ℤ). x.0) q)))

  -- an entry starts there, if some entries remain
  pub none_there : (n : ℤ) (es : List (Entry V)) → None ≡ option_map range_in (first_from n es) → 1 ≤ length (from n es) → ⊥
  none_there n es p some = by_parts (from n es) p some
    where
      by_parts : (xs : List (Entry V)) → None ≡ option_map range_in (first_entry xs) → 1 ≤ length xs → ⊥
      by_parts [] q i = omega arith
      by_parts (e ∷ xs) q i = cc

  -- the entries after a lookup of the next one that starts from n on
  module _ (n low high : ℤ) (cur was : List (Entry V)) (same : cur ≡ was) (h : StartsAscend low high cur) where
    found : first_from n was ≡ first_from n cur
    found = ap (first_from n) (sym same)

    -- the entry exists
    pub there : (s t : ℤ) → Some (s, t) ≡ option_map range_in (first_from n was) → (n ≤ℤ s) × IsSome (start_at s cur)
    there s t p =
        let d = started s t (first_from n was) p in
        let e = first_there n low high d.0 cur h (sym found ∙ d.1.0) in
        let over = e.0 in
        let is = d.1.1 in
        (omega (arith, ints), subst (λ o. IsSome o) (sym (subst (λ (x : ℤ). start_at x cur ≡ Some d.0) is e.1)) refl)

    -- the list without it
    pub left_from : (s t : ℤ) (new : List (Entry V)) → Some (s, t) ≡ option_map range_in (first_from n was) → new ≡ without s cur → from n new ≡ drop 1 (from n was)
    left_from s t new p q =
        let over = (there s t p).0 in
        by_parts over (from n cur) refl
      where
        first_out : (es : List (Entry V)) (e : Entry V) (xs : List (Entry V)) → n ≤ℤ e.lo → from n es ≡ e ∷ xs → from n (without e.lo es) ≡ xs
        first_out [] e xs u r = cc
        first_out (f ∷ fs) e xs u r = by_order e.lo f.lo
            (λ o a b. let k : f ∷ from n fs ≡ e ∷ xs = sym (from_takes n f fs (omega (arith, ints))) ∙ r in let one : f ≡ e = cc in absurd (omega (arith, ints, ap (λ (x : Entry V). x.lo) one)))
            (λ o a b. let k : f ∷ from n fs ≡ e ∷ xs = sym (from_takes n f fs (omega (arith, ints))) ∙ r in let same : from n fs ≡ xs = cc in rw b same)
            (λ o a b. by_lt_z f.lo n
            (λ m. rw b (from_skips n f (without e.lo fs) m ∙ first_out fs e xs u (sym (from_skips n f fs m) ∙ r)))
            (λ m. let k : f ∷ from n fs ≡ e ∷ xs = sym (from_takes n f fs m) ∙ r in let one : f ≡ e = cc in absurd (omega (arith, ints, ap (λ (x : Entry V). x.lo) one))))

        by_parts : n ≤ℤ s → (xs : List (Entry V)) → from n cur ≡ xs → from n new ≡ drop 1 (from n was)
        by_parts over [] r = let k : Some (s, t) ≡ None = p ∙ ap (option_map range_in) found ∙ ap (λ (x : List (Entry V)). option_map range_in (first_entry x)) r in cc
        by_parts over (e ∷ xs) r =
            let k : Some (s, t) ≡ Some (range_in e) = p ∙ ap (option_map range_in) found ∙ ap (λ (x : List (Entry V)). option_map range_in (first_entry x)) r in
            let ends : (s, t) ≡ range_in e = cc in
            let start : s ≡ e.lo = ap (λ (x : ℤ × ℤ). x.0) ends in
            ap (from n) q ∙ ap (λ x. from n (without x cur)) start ∙ first_out cur e xs (omega (arith, ints)) r ∙ sym (ap (drop 1) (ap (from n) (sym same) ∙ r))

  -- the entries that remain when one more is removed
  pub kept_below : (k s : ℤ) (new cur was args : List (Entry V)) → k ≤ℤ s → new ≡ without s cur → cur ≡ was → below k was ≡ below k args → below k new ≡ below k args
  kept_below k s new cur was args l n c a = ap (below k) n ∙ below_without k s cur l ∙ ap (below k) c ∙ a

  -- if an entry starts above a key, the key has a next one
  pub not_last : (k b high : ℤ) (es : List (Entry V)) → StartsAscend b high es → 1 ≤ length (from (k +ℤ pos 1) es) → k <ℤ high
  not_last k b high [] s n = absurd (omega arith)
  not_last k b high (e ∷ es) s n = by_lt_z k high
      (λ u. u)
      (λ u.
      let skip = ap length (from_skips (k +ℤ pos 1) e es (omega (arith, ints, s.1))) in
      not_last k (e.lo +ℤ pos 1) high es s.2 (omega (arith, skip)))

  -- if no entry starts at a key, a removal at the key changes nothing
  pub none_out : (k : ℤ) (es : List (Entry V)) → start_at k es ≡ None → without k es ≡ es
  none_out k [] q = refl
  none_out k (e ∷ es) q = by_order k e.lo
      (λ o a b. rw b (ap (λ t. e ∷ t) (none_out k es (absent_next k e es b q))))
      (λ o a b. let here : Some e ≡ None = sym (ap (λ t. cond t (Some e) (start_at k es)) b) ∙ q in cc)
      (λ o a b. rw b (ap (λ t. e ∷ t) (none_out k es (absent_next k e es b q))))
