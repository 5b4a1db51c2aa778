-- Maps that were painted in several ways to the same content are equal.
use Rattle.range_map_cli.proofs.Words.{option_or, ◌≡◌, ℤ, ◌≤ℤ◌, ◌<ℤ◌, Bool, true, false, cond, List, [], ◌∷◌, map, Option, Some, None, refl, ◌∙◌, sym, ap, subst, arith, ints, by_lt_z, IsEquivalence, signed_Decides, int_eq, same_along, same_itself, same_trans, same_or_right, or_assoc, IsRangeMap, right_first, IsChosen, below_at, from_at, Entry, entry, at, holds, SameEntries, SameOption, last_at, painted_in_order, value_at, IsAscendingPairs, painted_one, canonical_is_unique, pairs_are_content, canonical, ranked_pairs, last_is_first, painted_over, turned, points_of, AppendUndoesSplit, AreAllPainted, UnionIsPainting}
use Rattle.range_map_cli.proofs.Stepping.Stepped.{same_back}
use Rattle.blaze_entries.proofs.Plain.{chosen}

-- ---- points

module _ {V : Type 0} where
  point_holds : (a k : ℤ) (v : V) → holds (entry a a v) k ≡ int_eq k a
  point_holds a k v = by_lt_z k a (λ l. grind (arith, ints)) (λ h. by_lt_z a k (λ l. grind (arith, ints)) (λ l. grind (arith, ints)))

  -- no later pair has a key up to the first
  none_later : (p : ℤ × V) (ps : List (ℤ × V)) (k : ℤ) → IsAscendingPairs (λ j. j) (p ∷ ps) → k ≤ℤ p.0 → value_at (λ j. j) ps k ≡ None
  none_later p [] k a h = refl
  none_later p (q ∷ ps) k a h =
      let off : int_eq k q.0 ≡ false = grind (arith, ints, a.0, h) in
      ap (λ b. cond b (Some q.1) (value_at (λ j. j) ps k)) off ∙ none_later q ps k a.1 (omega (arith, ints, a.0, h))

  rest_ascending : (p : ℤ × V) (ps : List (ℤ × V)) → IsAscendingPairs (λ j. j) (p ∷ ps) → IsAscendingPairs (λ j. j) ps
  rest_ascending p [] a = tt
  rest_ascending p (q ∷ ps) a = a.1

  -- of ascending pairs, seen as points, the last with a key is the first
  last_point : (ps : List (ℤ × V)) (k : ℤ) → IsAscendingPairs (λ j. j) ps → last_at (map (λ (p : ℤ × V). entry p.0 p.0 p.1) ps) k ≡ value_at (λ j. j) ps k
  last_point [] k a = refl
  last_point (p ∷ ps) k a =
      ap (λ o. option_or o (cond (holds (entry p.0 p.0 p.1) k) (Some p.1) None)) (last_point ps k (rest_ascending p ps a))
      ∙ ap (λ b. option_or (value_at (λ j. j) ps k) (cond b (Some p.1) None)) (point_holds p.0 k p.1)
      ∙ by_test (int_eq k p.0) (value_at (λ j. j) ps k) (λ t. none_later p ps k a (omega (arith, ints, (signed_Decides k p.0).0 t)))
    where
      by_test : (b : Bool) (o : Option V) → (b ≡ true → o ≡ None) → option_or o (cond b (Some p.1) None) ≡ cond b (Some p.1) o
      by_test true o n = ap (λ x. option_or x (Some p.1)) (n refl)
      by_test false None n = refl
      by_test false (Some x) n = refl

module _ {V : Type 0} (eq : V → V → Bool) (laws : IsEquivalence eq) (low high : ℤ) where
  last_of_points : (es : List (Entry V)) (k : ℤ) → IsRangeMap eq low high es → last_at (points_of es) k ≡ at es k
  last_of_points es k r =
      let pairs = pairs_are_content (λ z. z) (λ z. z) eq low high (λ z a b. refl) laws es r in
      last_point (ranked_pairs es) k pairs.0.ascending ∙ pairs.0.same k

  -- ---- one by one

  -- a range map has the content of the pairs painted in order
  record IsPaintedInOrder (pairs old new : List (Entry V)) : Type 0 where
    range_map : IsRangeMap eq low high new
    content : (k : ℤ) → SameOption eq (at new k) (painted_in_order pairs (at old) k)

  painted_in_turn : (ps old new : List (Entry V)) → IsRangeMap eq low high old → AreAllPainted eq low high ps old new → IsPaintedInOrder ps old new
  painted_in_turn [] old new r same = subst (λ es. IsPaintedInOrder [] old es) same (record { range_map = r; content = λ k. same_itself eq laws (at old k) })
  painted_in_turn (p ∷ ps) old new r (next, one, more) =
      let rest = painted_in_turn ps next new one.range_map more in
      record {
        range_map = rest.range_map;
        content = λ k. same_trans eq laws (at new k) (painted_in_order ps (at next) k) (painted_in_order (p ∷ ps) (at old) k) (rest.content k)
            (subst (SameOption eq (option_or (last_at ps k) (at next k)))
            (ap (option_or (last_at ps k)) (painted_one (holds p k) p.value (at old k)) ∙ sym (or_assoc (last_at ps k) (cond (holds p k) (Some p.value) None) (at old k)))
            (same_or_right eq laws (last_at ps k) (at next k) (cond (holds p k) (Some p.value) (at old k)) (one.content k)));
      }

  -- ---- unions

  same_chosen : (a b left right : List (Entry V)) → IsChosen eq low high right_first a b left → IsChosen eq low high right_first a b right → SameEntries eq left right
  same_chosen a b left right l r =
      canonical_is_unique eq laws left right l.range_map.runs r.range_map.runs
      (λ k. same_trans eq laws (at left k) (right_first (at a k) (at b k)) (at right k) (l.content k) (same_back eq laws (at right k) (right_first (at a k) (at b k)) (r.content k)))

  -- pairs whose last values are those of a list
  union_painted : (a b pairs new : List (Entry V)) → ((k : ℤ) → last_at pairs k ≡ at b k) → IsPaintedInOrder pairs a new → IsChosen eq low high right_first a b new
  union_painted a b pairs new lasts p = chosen p.range_map (λ k. same_along eq refl (ap (λ o. option_or o (at a k)) (lasts k) ∙ turned (at b k) (at a k)) (p.content k))

  pub union_is_painting : UnionIsPainting eq low high
  union_is_painting a b union ra rb chosen = record {
    extended = λ new e. same_chosen a b union new chosen (painted_over eq laws low high a b new rb e);
    in_turn = λ new t. same_chosen a b union new chosen (union_painted a b b new (λ k. last_is_first eq b k (canonical eq laws b rb.runs)) (painted_in_turn b a new ra t));
    by_points = λ new t. same_chosen a b union new chosen (union_painted a b (points_of b) new (λ k. last_of_points b k rb) (painted_in_turn (points_of b) a new ra t));
  }

  -- ---- splits

  above_only : (f b o : Option V) → SameOption eq f o → SameOption eq b None → SameOption eq (option_or f b) o
  above_only None None o s n = s
  above_only None (Some y) o s n = absurd n
  above_only (Some x) b o s n = s

  below_only : (f b o : Option V) → SameOption eq f None → SameOption eq b o → SameOption eq (option_or f b) o
  below_only None b o n s = s
  below_only (Some x) b o n s = absurd n

  -- at each key one of the two parts has what was there
  module _ (k j : ℤ) (content : ℤ → Option V) where
    from_off : j <ℤ k → from_at k content j ≡ None
    from_off l = grind (arith, ints)

    from_on : k ≤ℤ j → from_at k content j ≡ content j
    from_on l = grind (arith, ints)

    below_off : k ≤ℤ j → below_at k content j ≡ None
    below_off l = grind (arith, ints)

    below_on : j <ℤ k → below_at k content j ≡ content j
    below_on l = grind (arith, ints)

  pub append_undoes_split : AppendUndoesSplit eq low high
  append_undoes_split k old below from new r s e =
      canonical_is_unique eq laws new old e.range_map.runs r.runs (λ j.
      same_trans eq laws (at new j) (option_or (at from j) (at below j)) (at old j)
      (same_along eq refl (ap (λ o. option_or o (at below j)) (last_is_first eq from j (canonical eq laws from s.from_range_map.runs))) (e.content j))
      (by_lt_z j k
      (λ l. below_only (at from j) (at below j) (at old j) (same_along eq refl (from_off k j (at old) l) (s.from_content j)) (same_along eq refl (below_on k j (at old) l) (s.below_content j)))
      (λ l. above_only (at from j) (at below j) (at old j) (same_along eq refl (from_on k j (at old) l) (s.from_content j)) (same_along eq refl (below_off k j (at old) l) (s.below_content j)))))
