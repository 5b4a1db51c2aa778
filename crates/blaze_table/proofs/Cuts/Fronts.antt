-- The first key is removed from the first entry, given the result of the lookup.
use Rattle.blaze_table.proofs.Words.{◌≡◌, ℤ, pos, ◌+ℤ◌, ◌<ℤ◌, Bool, false, cond, List, [], ◌∷◌, ◌++◌, Option, Some, None, refl, ◌∙◌, sym, subst, ap, arith, IsEquivalence, slice_get, option_map, int_eq, IsSome, ints, IsRangeCloned, IsManyCloned, StartsAscend, start_at, with_entry, IsFirstRemoved, RangeEntry, same_along, by_order, start_none, with_entry-first, IsCanonical, Entry, entry, SameEntries, ClonesAreAlike, after, IsKeyTaken, at_in, entries_themselves, before_ends, after_cuts}
use Rattle.blaze_table.proofs.Cuts.Cutting.{after_whole}

-- a list after an insertion has a first entry
pub first_there : {V : Type 0} (p : Entry V) (es new : List (Entry V)) → new ≡ with_entry p es → IsSome (slice_get new 0)
first_there p es new q = subst (λ l. IsSome (slice_get l 0)) (sym q) (by_list es)
  where
    by_list : (es : List (Entry _)) → IsSome (slice_get (with_entry p es) 0)
    by_list [] = refl
    by_list (f ∷ fs) = by_order p.lo f.lo (λ o q r. rw q refl) (λ o q r. rw q refl) (λ o q r. rw q refl)

module _ {T V : Type 0} (rank : T → ℤ) (is_clone : V → V → Type 0) (r : RangeEntry T (Option V)) where
  -- the first key is the start in the lookup's result
  pub first_key : (es : List (Entry V)) → IsRangeCloned rank is_clone (slice_get es 0) (Some r) → option_map (λ e. e.lo) (slice_get es 0) ≡ Some (rank r.start)
  first_key [] i = absurd i
  first_key (e ∷ es) i = ap (λ (t : ℤ × ℤ). Some t.0) (sym i.0)

  module _ (eq : V → V → Bool) (laws : IsEquivalence eq) (low high : ℤ) where
    -- the remaining list has of the entry only its part above the key
    taken : (e : Entry V) (es above mid new : List (Entry V)) (w : V) → IsCanonical eq (e ∷ es) → rank r.start ≡ e.lo → SameEntries eq (after e.lo (e ∷ es)) above → mid ≡ e ∷ above → IsFirstRemoved w mid new → IsKeyTaken eq (rank r.start) (Some w) (e ∷ es) new
    taken e es above mid new w c lo like is removed =
        let both : removed.first ∷ new ≡ e ∷ above = sym removed.removed ∙ is in
        let first : removed.first ≡ e = cc in
        let rest : above ≡ new = cc in
        subst (λ k. IsKeyTaken eq k (Some w) (e ∷ es) new) (sym lo) (record {
          cut = record {
            above = new;
            like = subst (SameEntries eq (after e.lo (e ∷ es))) rest like;
            joined = ap (λ l. l ++ new) (sym (before_ends e.lo e es c.0 (omega (arith, ints))));
          };
          value = same_along eq (sym (at_in e es e.lo (omega (arith, ints)) c.0)) refl (ap (eq e.value) (sym removed.value ∙ ap (λ (x : Entry V). x.value) first) ∙ laws.refl e.value);
        })

    -- the entry has one key
    pub one_cut : (es new : List (Entry V)) (w : V) → IsCanonical eq es → IsRangeCloned rank is_clone (slice_get es 0) (Some r) → r.value ≡ None → IsFirstRemoved w es new → IsKeyTaken eq (rank r.start) (Some w) es new
    one_cut [] new w c i q removed = absurd i
    one_cut (e ∷ es) new w c i q removed =
        taken e es es (e ∷ es) new w c (ap (λ (t : ℤ × ℤ). t.0) i.0) (subst (λ l. SameEntries eq l es) (sym (after_whole eq e.lo e es c (subst (IsManyCloned is_clone e) q i.1) c.0)) (entries_themselves eq laws es)) refl removed

    module _ (e : Entry V) (es : List (Entry V)) (s : StartsAscend low high (e ∷ es)) (c : IsCanonical eq (e ∷ es)) where
      others_ascend : (es : List (Entry V)) → StartsAscend (e.lo +ℤ pos 1) high es → IsCanonical eq (e ∷ es) → StartsAscend (e.hi +ℤ pos 1) high es
      others_ascend [] s c = tt
      others_ascend (f ∷ fs) s c = (omega (arith, ints, c.1.0), s.1, s.2)

      none_at : (n : ℤ) → n ≡ e.lo +ℤ pos 1 → e.lo <ℤ e.hi → start_at n (e ∷ es) ≡ None
      none_at n next long = ap (λ b. cond b (Some e) (start_at n es)) (no_eq n e.lo (omega (arith, ints))) ∙ start_none n (e.hi +ℤ pos 1) high es (omega (arith, ints)) (others_ascend es s.2 c)
        where
          no_eq : (a b : ℤ) → b <ℤ a → int_eq a b ≡ false
          no_eq a b l = grind (arith, ints)

      put_second : (p : Entry V) → p.lo ≡ e.lo +ℤ pos 1 → e.lo <ℤ e.hi → with_entry p (e ∷ es) ≡ e ∷ p ∷ es
      put_second p next long = by_order p.lo e.lo
          (λ o q r. absurd (omega (arith, ints)))
          (λ o q r. absurd (omega (arith, ints)))
          (λ o q r. rw q (ap (λ l. e ∷ l) (with_entry-first p (e.hi +ℤ pos 1) high es (omega (arith, ints)) (others_ascend es s.2 c))))

    module _ (v : V) (q : r.value ≡ Some v) (n : ℤ) (next : n ≡ rank r.start +ℤ pos 1) where
      -- the entry has more keys: no entry starts at the next one
      pub none_next : (es : List (Entry V)) → StartsAscend low high es → IsCanonical eq es → IsRangeCloned rank is_clone (slice_get es 0) (Some r) → start_at n es ≡ None
      none_next [] s c i = absurd i
      none_next (e ∷ es) s c i = none_at e es s c n (next ∙ ap (λ (t : ℤ × ℤ). t.0 +ℤ pos 1) i.0) (subst (IsManyCloned is_clone e) q i.1).0

      -- the entry has more keys: an entry with a clone of the value was inserted at the next one first
      pub more_cut : ClonesAreAlike is_clone eq → (es mid new : List (Entry V)) (w : V) → StartsAscend low high es → IsCanonical eq es → IsRangeCloned rank is_clone (slice_get es 0) (Some r) → mid ≡ with_entry (entry n (rank r.end) v) es → IsFirstRemoved w mid new → IsKeyTaken eq (rank r.start) (Some w) es new
      more_cut alike [] mid new w s c i put removed = absurd i
      more_cut alike (e ∷ es) mid new w s c i put removed =
          let many = subst (IsManyCloned is_clone e) q i.1 in
          let lo = ap (λ (t : ℤ × ℤ). t.0) i.0 in
          let start : n ≡ e.lo +ℤ pos 1 = next ∙ ap (λ k. k +ℤ pos 1) lo in
          let p : Entry V = entry n (rank r.end) v in
          let long = many.0 in
          taken e es (p ∷ es) mid new w c lo
          (subst (λ l. SameEntries eq l (p ∷ es)) (sym (after_cuts e.lo e es long (omega (arith, ints)))) (sym start, sym (ap (λ (t : ℤ × ℤ). t.1) i.0), alike e.value v many.1, entries_themselves eq laws es))
          (put ∙ put_second e es s c p start long) removed
