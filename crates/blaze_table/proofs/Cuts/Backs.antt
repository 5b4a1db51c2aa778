-- The last key is removed from the last entry, given the result of the lookup.
use Rattle.blaze_table.proofs.Words.{◌≡◌, ◌-◌, length, ℤ, pos, ◌+ℤ◌, ◌≤ℤ◌, Bool, List, [], ◌∷◌, ◌++◌, Option, Some, None, refl, ◌∙◌, sym, subst, ap, arith, length-append, IsEquivalence, slice_get, option_map, IsSomeAnd, ints, append-nil, IsRangeCloned, IsManyCloned, range_in, StartsAscend, holder_of, start_at, without, with_end, with_last_end, IsLastRemoved, RangeEntry, by_order, StartsBelow, IsCanonical, Entry, ClonesAreAlike, IsListWithoutKey, IsKeyTaken}
use Rattle.blaze_table.proofs.Cuts.CutEdits.{HasKey, has_key, end_taken, value_removed, whole_cut}
use Rattle.blaze_table.proofs.Cuts.Ends.{last_holder, end_held}
use Rattle.blaze_table.proofs.Cuts.Splits.{canonical_part}
use Rattle.blaze_table.proofs.Neighbours.Growing.{found_there}
use Rattle.blaze_table.proofs.Neighbours.Holders.{without-between}

module _ {V : Type 0} where
  -- the last entry, which starts at a, gets another end
  end_of_last : (a y b high : ℤ) (x : Entry V) (xs : List (Entry V)) → StartsAscend b high (x ∷ xs) → IsSomeAnd (slice_get (x ∷ xs) (length xs)) (λ e. a ≡ e.lo) → (b ≤ℤ a) × (with_last_end y (x ∷ xs) ≡ with_end a y (x ∷ xs))
  end_of_last a y b high x [] s p = (omega (arith, ints, s.0, p), by_order a x.lo (λ o q r. absurd (omega (arith, ints, p))) (λ o q r. rw r refl) (λ o q r. absurd (omega (arith, ints, p))))
  end_of_last a y b high x (z ∷ zs) s p =
      let later = end_of_last a y (x.lo +ℤ pos 1) high z zs s.2 p in
      let up = later.0 in (
        omega (arith, ints, s.0, up),
        by_order a x.lo (λ o q r. absurd (omega (arith, ints))) (λ o q r. absurd (omega (arith, ints))) (λ o q r. rw r (ap (λ l. x ∷ l) later.1)),
      )

  last_with_end : (a y low high : ℤ) (es : List (Entry V)) → StartsAscend low high es → IsSomeAnd (slice_get es (length es - 1)) (λ e. a ≡ e.lo) → with_last_end y es ≡ with_end a y es
  last_with_end a y low high [] s p = refl
  last_with_end a y low high (x ∷ xs) s p =
      let place : length (x ∷ xs) - 1 ≡ length xs = omega arith in
      (end_of_last a y low high x xs s (subst (λ n. IsSomeAnd (slice_get (x ∷ xs) n) (λ e. a ≡ e.lo)) place p)).1

  -- the entries before the last one
  starts_under : (b high : ℤ) (xs : List (Entry V)) (e : Entry V) → StartsAscend b high (xs ++ e ∷ []) → (b ≤ℤ e.lo) × StartsBelow e.lo xs
  starts_under b high [] e s = (s.0, tt)
  starts_under b high (x ∷ xs) e s =
      let later = starts_under (x.lo +ℤ pos 1) high xs e s.2 in
      let up = later.0 in
      (omega (arith, ints, s.0, up), (omega (arith, ints, up), later.1))

  last_is : (xs : List (Entry V)) (e : Entry V) → slice_get (xs ++ e ∷ []) (length (xs ++ e ∷ []) - 1) ≡ Some e
  last_is xs e =
      let place : length (xs ++ e ∷ []) - 1 ≡ length xs = omega (arith, length-append xs (e ∷ [])) in
      ap (slice_get (xs ++ e ∷ [])) place ∙ behind xs
    where
      behind : (xs : List (Entry V)) → slice_get (xs ++ e ∷ []) (length xs) ≡ Some e
      behind [] = refl
      behind (x ∷ xs) = behind xs

  some_weaker : {P Q : Entry V → Type 0} (o : Option (Entry V)) → ((e : Entry V) → P e → Q e) → IsSomeAnd o P → IsSomeAnd o Q
  some_weaker None f i = i
  some_weaker (Some e) f i = f e i

module _ {T V : Type 0} (rank : T → ℤ) (is_clone : V → V → Type 0) (r : RangeEntry T (Option V)) (es : List (Entry V)) (i : IsRangeCloned rank is_clone (slice_get es (length es - 1)) (Some r)) where
  -- the last key is the end in the lookup's result
  pub last_key : option_map (λ e. e.hi) (slice_get es (length es - 1)) ≡ Some (rank r.end)
  last_key = by_last (slice_get es (length es - 1)) i
    where
      by_last : (o : Option (Entry V)) → IsRangeCloned rank is_clone o (Some r) → option_map (λ e. e.hi) o ≡ Some (rank r.end)
      by_last None i = absurd i
      by_last (Some e) i = ap (λ (t : ℤ × ℤ). Some t.1) (sym i.0)

  module _ (eq : V → V → Bool) (laws : IsEquivalence eq) (low high : ℤ) (s : StartsAscend low high es) (c : IsCanonical eq es) where
    abbrev held : IsRangeCloned rank is_clone (holder_of (rank r.end) es) (Some r)
    held = end_held eq laws low high es s c (λ x. x.1) (slice_get es (length es - 1)) (last_holder eq es c) rank is_clone r i

    pub last_has : HasKey eq laws (rank r.end) low high es s c (λ x. ((rank r.start, rank r.end) ≡ range_in x) × IsManyCloned is_clone x r.value)
    last_has = has_key eq laws (rank r.end) low high es s c _ held

    -- the entry has more keys: its end moves down
    pub end_moved : ClonesAreAlike is_clone eq → (v : V) → r.value ≡ Some v → (y : ℤ) → y +ℤ pos 1 ≡ rank r.end → (new : List (Entry V)) → new ≡ with_last_end y es → IsKeyTaken eq (rank r.end) (Some v) es new
    end_moved alike v q y t new n =
        let here = some_weaker (slice_get es (length es - 1)) (λ e j. ap (λ (t : ℤ × ℤ). t.0) j.0) i in
        end_taken eq laws (rank r.end) low high es s c is_clone alike (rank r.start) (rank r.end) v
        (subst (λ o. IsSomeAnd (holder_of (rank r.end) es) (λ e. ((rank r.start, rank r.end) ≡ range_in e) × IsManyCloned is_clone e o)) q held)
        (omega (arith, ints)) y t new (n ∙ last_with_end (rank r.start) y low high es s here)

    -- the entry has one key: it is removed
    pub last_out : r.value ≡ None → (w : V) (new : List (Entry V)) → IsLastRemoved w es new → IsKeyTaken eq (rank r.end) (Some w) es new
    last_out q w new removed =
        let h = last_has in
        let l = removed.last in
        let one = subst (IsManyCloned is_clone h.of) q h.holds.1 in
        let here = subst (λ o. IsRangeCloned rank is_clone o (Some r)) (ap (λ es. slice_get es (length es - 1)) removed.removed ∙ last_is new l) i in
        let single = subst (IsManyCloned is_clone l) q here.1 in
        let ends : rank r.end ≡ l.hi = ap (λ (t : ℤ × ℤ). t.1) here.0 in
        let order = (canonical_part eq new (l ∷ []) (subst (IsCanonical eq) removed.removed c)).0 in
        let start : l.lo ≡ rank r.end = omega (arith, ints) in
        let under = subst (λ k. StartsBelow k new) start (starts_under low high new l (subst (StartsAscend low high) removed.removed s)).1 in
        record {
          cut = subst (IsListWithoutKey eq (rank r.end) es) (ap (without (rank r.end)) removed.removed ∙ without-between (rank r.end) l new [] start under ∙ append-nil new)
              (whole_cut eq laws (rank r.end) low high es s c h.of h.last h.up one);
          value = value_removed eq laws (rank r.end) low high es s c h.of h.last h.up one w
              (ap (λ xs. option_map (λ (x : Entry V). x.value) (start_at (rank r.end) xs)) removed.removed ∙ ap (option_map (λ x. x.value)) (found_there (rank r.end) l new [] start under) ∙ ap (λ v. Some v) removed.value);
        }
