-- A painted range, joined with its neighbours, is the result of the paint.
use Rattle.blaze_table.proofs.Words.{◌≡◌, ℤ, pos, ◌+ℤ◌, ◌-ℤ◌, ◌≤ℤ◌, ◌<ℤ◌, Bool, true, false, cond, ◌&&◌, ◌||◌, List, [], ◌∷◌, ◌++◌, Option, Some, None, refl, ◌∙◌, sym, subst, ap, arith, inl, inr, IsSome, int_le, ◌⊎◌, Contains, int_eq, option_map, IsEquivalence, ints, by_lt_z, and_parts, append_assoc, le_holds, eq_holds, le_true, eq_true, one_value, Entry, entry, SameEntries, IsApart, IsCanonical, before, after, glue, IsPaintOf, IsSameAbove, found_in, StartsAscend, below, last_below, start_at, IsJoinedEnd, IsUnjoined, joined_start, by_after, by_join, before_keeps, before_cuts, before_ends, below_more, after_skips, after_keeps, canonical_after, IsAbove, first_in, later_in, by_first, over_in, in_after, before_past, glue-last}
use Rattle.blaze_table.proofs.Cuts.Splits.{LastAt, last_at, no_last_from, ends_below, canonical_part}
use Rattle.blaze_table.proofs.Neighbours.Growing.{last_there, front_last}

module _ {V : Type 0} (eq : V → V → Bool) where
  pub after_over : (k : ℤ) (es : List (Entry V)) → IsAbove k es → IsCanonical eq es → after k es ≡ es
  after_over k [] a c = refl
  after_over k (e ∷ es) a c = after_keeps k e es (omega (arith, ints, c.0)) a

  pub after_after : (h z : ℤ) (es : List (Entry V)) → h ≤ℤ z → after z (after h es) ≡ after z es
  after_after h z [] l = refl
  after_after h z (e ∷ es) l = by_after h e es
      (λ u p. ap (after z) p ∙ after_after h z es l ∙ sym (after_skips z e es (omega (arith, ints))))
      (λ u m p. ap (after z) p ∙ by_after z e es
      (λ w q. after_skips z (entry (h +ℤ pos 1) e.hi e.value) es w ∙ sym q)
      (λ w n q. cut w n ∙ sym q)
      (λ w n q. absurd (omega (arith, ints))))
      (λ u m p. ap (after z) p)
    where
      cut : z <ℤ e.hi → e.lo ≤ℤ z → after z (entry (h +ℤ pos 1) e.hi e.value ∷ es) ≡ entry (z +ℤ pos 1) e.hi e.value ∷ es
      cut w n = by_after z (entry (h +ℤ pos 1) e.hi e.value) es
          (λ a q. absurd (omega (arith, ints)))
          (λ a b q. q)
          (λ a b q. q ∙ same (omega (arith, ints)))
        where
          same : h ≡ z → entry (h +ℤ pos 1) e.hi e.value ∷ es ≡ entry (z +ℤ pos 1) e.hi e.value ∷ es
          same p = ap (λ x. entry (x +ℤ pos 1) e.hi e.value ∷ es) p

reaches : (a b : Bool) → (a || b) ≡ true → (a ≡ true) ⊎ (b ≡ true)
reaches true b q = inl refl
reaches false b q = inr q

passed : (b : Bool) (x y : ℤ) → Some x ≡ cond b (Some y) None → (b ≡ true) × (y ≡ x)
passed true x y q = (refl, cc)
passed false x y q = cc

failed : (b : Bool) (y : ℤ) → None ≡ cond b (Some y) None → b ≡ false
failed true y q = cc
failed false y q = refl

module _ {V : Type 0} (test : V → Bool) (l low high : ℤ) (es : List (Entry V)) (s : StartsAscend low high es) where
  -- the entry below that the range is joined with
  pub record StartedAt (l1 : ℤ) : Type 0 where
    pub of : Entry V
    pub is : last_below l es ≡ Some of
    pub lo : of.lo ≡ l1
    pub near : l ≤ℤ (of.hi +ℤ pos 1)
    pub like : test of.value ≡ true

  pub started_at : (l1 : ℤ) → Some l1 ≡ joined_start l (option_map (found_in test) (last_below l es)) → StartedAt l1
  started_at l1 q = by_last (last_below l es) refl q
    where
      by_last : (o : Option (Entry V)) → last_below l es ≡ o → Some l1 ≡ joined_start l (option_map (found_in test) o) → StartedAt l1
      by_last None i q = cc
      by_last (Some e) i q =
          let t = passed (test e.value && (int_le l e.hi || int_eq l (e.hi +ℤ pos 1))) l1 e.lo q in
          let u = and_parts (test e.value) (int_le l e.hi || int_eq l (e.hi +ℤ pos 1)) t.0 in
          record {
            of = e;
            is = i;
            lo = t.1;
            like = u.0;
            near = elim (reaches (int_le l e.hi) (int_eq l (e.hi +ℤ pos 1)) u.1) [
              | inl r ↦ let k = le_holds l e.hi r in omega (arith, ints)
              | inr r ↦ let k = eq_holds l (e.hi +ℤ pos 1) r in omega (arith, ints)
            ];
          }

-- the joined range ends at the range's end or above it
pub end_up : {V : Type 0} (eq : V → V → Bool) (test : V → Bool) (h : ℤ) (es : List (Entry V)) → IsCanonical eq es → (z : ℤ) → IsJoinedEnd test h es z → h ≤ℤ z
end_up eq test h es c z (inl e) = let q = e.0 in omega (arith, ints)
end_up eq test h es c z (inr e) =
    let whole : IsCanonical eq (e.next ∷ e.others) = subst (IsCanonical eq) e.first (canonical_after eq h es c) in
    let start = e.touches in
    let finish = e.ends in
    omega (arith, ints, whole.0)

module _ {V : Type 0} (eq : V → V → Bool) (laws : IsEquivalence eq) (l h : ℤ) (v : V) (w : l ≤ℤ h) (low high : ℤ) (es : List (Entry V)) (s : StartsAscend low high es) (c : IsCanonical eq es) where
  abbrev p : Entry V
  p = entry l h v

  abbrev test : V → Bool
  test x = eq x v

  nothing_before : (ys : List (Entry V)) → StartsAscend l high ys → IsCanonical eq ys → before l ys ≡ []
  nothing_before [] b k = refl
  nothing_before (y ∷ ys) b k = before_ends l y ys (omega (arith, ints, b.0, k.0)) b.0

  module _ (e : Entry V) (i : LastAt l high e es) where
    abbrev cut : IsCanonical eq (i.front ++ e ∷ i.back)
    cut = subst (IsCanonical eq) i.parts c

    behind : before l i.back ≡ []
    behind = nothing_before i.back i.back_from (canonical_part eq (e ∷ []) i.back (canonical_part eq i.front (e ∷ i.back) cut))

    -- the part below the range ends with the shortened entry
    left_short : e.hi <ℤ l → before l es ≡ i.front ++ e ∷ []
    left_short u = ap (before l) i.parts ∙ before_past l i.front (e ∷ i.back) (below_more e.lo l i.front (omega (arith, ints, i.starts)) (ends_below eq i.front e i.back cut))
        ∙ ap (λ t. i.front ++ t) (before_keeps l e i.back u ∙ ap (λ t. e ∷ t) behind)

    left_long : l ≤ℤ e.hi → before l es ≡ i.front ++ entry e.lo (l -ℤ pos 1) e.value ∷ []
    left_long u = ap (before l) i.parts ∙ before_past l i.front (e ∷ i.back) (below_more e.lo l i.front (omega (arith, ints, i.starts)) (ends_below eq i.front e i.back cut))
        ∙ ap (λ t. i.front ++ t) (before_cuts l e i.back u i.starts)

    left_joined : l ≤ℤ (e.hi +ℤ pos 1) → eq e.value v ≡ true → glue eq (before l es) (p ∷ []) ≡ i.front ++ entry e.lo h e.value ∷ []
    left_joined n a = by_lt_z e.hi l
        (λ u. ap (λ x. glue eq x (p ∷ [])) (left_short u) ∙ glue-last eq i.front e (p ∷ []) ∙ ap (λ x. i.front ++ x) (by_join eq e p []
        (λ t k r. r) (λ k r. absurd (true_false (sym a ∙ k (omega (arith, ints)))))))
        (λ u. ap (λ x. glue eq x (p ∷ [])) (left_long u) ∙ glue-last eq i.front (entry e.lo (l -ℤ pos 1) e.value) (p ∷ []) ∙ ap (λ x. i.front ++ x) (by_join eq (entry e.lo (l -ℤ pos 1) e.value) p []
        (λ t k r. r) (λ k r. absurd (true_false (sym a ∙ k (omega (arith, ints)))))))
      where
        true_false : true ≡ false → ⊥
        true_false q = cc

    left_alone : (eq e.value v ≡ true → l ≤ℤ (e.hi +ℤ pos 1) → ⊥) → glue eq (before l es) (p ∷ []) ≡ before l es ++ p ∷ []
    left_alone n = by_lt_z e.hi l
        (λ u. ap (λ x. glue eq x (p ∷ [])) (left_short u) ∙ glue-last eq i.front e (p ∷ []) ∙ ap (λ x. i.front ++ x) (by_join eq e p []
        (λ t k r. absurd (n k (omega (arith, ints)))) (λ k r. r)) ∙ sym (append_assoc i.front (e ∷ []) (p ∷ [])) ∙ ap (λ x. x ++ p ∷ []) (sym (left_short u)))
        (λ u. ap (λ x. glue eq x (p ∷ [])) (left_long u) ∙ glue-last eq i.front (entry e.lo (l -ℤ pos 1) e.value) (p ∷ []) ∙ ap (λ x. i.front ++ x) (by_join eq (entry e.lo (l -ℤ pos 1) e.value) p []
        (λ t k r. absurd (n k (omega (arith, ints)))) (λ k r. r)) ∙ sym (append_assoc i.front (entry e.lo (l -ℤ pos 1) e.value ∷ []) (p ∷ [])) ∙ ap (λ x. x ++ p ∷ []) (sym (left_long u)))

  left_apart : None ≡ joined_start l (option_map (found_in test) (last_below l es)) → glue eq (before l es) (p ∷ []) ≡ before l es ++ p ∷ []
  left_apart q = by_last (last_below l es) refl q
    where
      against : (a x y : Bool) → (a && (x || y)) ≡ false → a ≡ true → (x ≡ true) ⊎ (y ≡ true) → ⊥
      against true true y q k r = cc
      against true false true q k r = cc
      against true false false q k (inl r) = cc
      against true false false q k (inr r) = cc
      against false x y q k r = cc

      near : (e : Entry V) → l ≤ℤ (e.hi +ℤ pos 1) → (int_le l e.hi ≡ true) ⊎ (int_eq l (e.hi +ℤ pos 1) ≡ true)
      near e u = by_lt_z e.hi l (λ k. inr (eq_true l (e.hi +ℤ pos 1) (omega (arith, ints)))) (λ k. inl (le_true l e.hi k))

      by_last : (o : Option (Entry V)) → last_below l es ≡ o → None ≡ joined_start l (option_map (found_in test) o) → glue eq (before l es) (p ∷ []) ≡ before l es ++ p ∷ []
      by_last None i q =
          let none = nothing_before es (no_last_from l low high es s i) c in
          ap (λ x. glue eq x (p ∷ [])) none ∙ ap (λ x. x ++ p ∷ []) (sym none)
      by_last (Some e) i q =
          left_alone e (last_at l low high e es s i) (λ k u. against (eq e.value v) (int_le l e.hi) (int_eq l (e.hi +ℤ pos 1)) (failed (eq e.value v && (int_le l e.hi || int_eq l (e.hi +ℤ pos 1))) e.lo q) k (near e u))

  -- the part after the painted range, by where the joined range ends
  module _ (z : ℤ) (end : IsJoinedEnd test h es z) (above : List (Entry V)) (like : IsSameAbove eq z es above) where
    -- the join with the entry above: it follows an entry m that ends at h with a value equal to v
    pub record Right (xs : List (Entry V)) (f : ℤ) (u : V) : Type 0 where
      pub tail : List (Entry V)
      pub same : IsSameAbove eq h es tail
      pub glued : glue eq (xs ++ entry f h u ∷ []) tail ≡ xs ++ entry f z u ∷ above

    not_alike : (a b u : V) → eq a b ≡ true → eq u v ≡ true → eq a v ≡ false → eq u b ≡ true → ⊥
    not_alike a b u ab uv n ub =
        let bu : eq b u ≡ true = laws.symm b u ∙ ub in
        let av : eq a v ≡ true = laws.congr a b v ab ∙ laws.congr b u v bu ∙ uv in
        false_true (sym n ∙ av)
      where
        false_true : false ≡ true → ⊥
        false_true q = cc

    unjoined : (xs : List (Entry V)) (f : ℤ) (u : V) (xa bs : List (Entry V)) → eq u v ≡ true → SameEntries eq xa bs → IsUnjoined test h xa → glue eq (xs ++ entry f h u ∷ []) bs ≡ xs ++ entry f h u ∷ bs
    unjoined xs f u [] [] q t n = glue-last eq xs (entry f h u) []
    unjoined xs f u [] (b ∷ bs) q t n = absurd t
    unjoined xs f u (a ∷ xa) [] q t n = absurd t
    unjoined xs f u (a ∷ xa) (b ∷ bs) q t n = glue-last eq xs (entry f h u) (b ∷ bs) ∙ ap (λ y. xs ++ y) (by_join eq (entry f h u) b bs
        (λ touch alike r. absurd (not_alike a.value b.value u t.2 q (n (omega (arith, ints, t.0))) alike))
        (λ m r. r))

    pub right : (xs : List (Entry V)) (f : ℤ) (u : V) → eq u v ≡ true → Right xs f u
    right xs f u q = elim end [
      | inl e ↦
          let same = subst (λ (x : ℤ). IsSameAbove eq x es above) e.0 like in
          record { tail = above; same = same; glued = unjoined xs f u (after h es) above q same.alike e.1 ∙ ap (λ x. xs ++ entry f x u ∷ above) (sym e.0) }
      | inr e ↦
          let whole : IsCanonical eq (e.next ∷ e.others) = subst (IsCanonical eq) e.first (canonical_after eq h es c) in
          let start = e.touches in
          let finish = e.ends in
          let le : h ≤ℤ z = omega (arith, ints, whole.0) in
          let over = behind e.next e.others finish whole.1 in
          let others : after z es ≡ e.others = sym (after_after eq h z es le) ∙ ap (after z) e.first ∙ after_skips z e.next e.others (omega (arith, ints)) ∙ after_over eq z e.others over whole.2 in
          record {
            tail = e.next ∷ above;
            same = record {
              alike = subst (λ (t : List (Entry V)). SameEntries eq t (e.next ∷ above)) (sym e.first) (refl, refl, laws.refl e.next.value, subst (λ (t : List (Entry V)). SameEntries eq t above) others like.alike);
              kept = λ d i m. by_first e.next e.others d (subst (λ t. Contains t d) e.first (in_after eq h es d c i m))
                  (λ same_one. subst (Contains (e.next ∷ above)) same_one (first_in e.next above))
                  (λ later. later_in e.next above d (like.kept d i (over_in eq z e.others d over whole.2 later).0));
            };
            glued = glue-last eq xs (entry f h u) (e.next ∷ above) ∙ ap (λ y. xs ++ y) (by_join eq (entry f h u) e.next above
                (λ touch alike r. r ∙ ap (λ x. entry f x u ∷ above) finish)
                (λ n r. absurd (false_true (sym (n start) ∙ (laws.congr u v e.next.value q ∙ laws.symm v e.next.value ∙ e.like)))));
          }
    ]
      where
        false_true : false ≡ true → ⊥
        false_true q = cc

        behind : (n : Entry V) (ys : List (Entry V)) → n.hi ≡ z → IsApart eq n ys → IsAbove z ys
        behind n [] q a = tt
        behind n (y ∷ ys) q a = omega (arith, ints, a.0)

    -- the range is joined with the last entry that starts below it
    pub paint_extends : (l1 : ℤ) (new : List (Entry V)) → Some l1 ≡ joined_start l (option_map (found_in test) (last_below l es))
        → (of : Entry V) → start_at l1 es ≡ Some of → new ≡ below l1 es ++ entry l1 z of.value ∷ above → IsPaintOf eq p es new
    paint_extends l1 new q of found put =
        let t = started_at test l low high es s l1 q in
        let e = t.of in
        let i = last_at l low high e es s t.is in
        let same : e ≡ of = one_value (start_at l1 es) (ap (λ x. start_at x es) (sym t.lo) ∙ last_there l high e es i) found in
        let up = i.starts in
        let near = t.near in
        let g = right i.front e.lo e.value t.like in
        record {
          above = g.tail;
          like = g.same;
          glued = put ∙ ap (λ x. x ++ entry l1 z of.value ∷ above) (ap (λ x. below x es) (sym t.lo) ∙ front_last l high e es i) ∙ ap (λ x. i.front ++ entry x z of.value ∷ above) (sym t.lo)
              ∙ ap (λ (x : Entry V). i.front ++ entry e.lo z x.value ∷ above) (sym same)
              ∙ sym g.glued ∙ sym (ap (λ x. glue eq x g.tail) (left_joined e i t.near t.like));
        }

    -- the range is not joined with an entry below it
    pub paint_puts : (new : List (Entry V)) → None ≡ joined_start l (option_map (found_in test) (last_below l es)) → new ≡ before l es ++ entry l z v ∷ above → IsPaintOf eq p es new
    paint_puts new q put =
        let g = right (before l es) l v (laws.refl v) in
        record { above = g.tail; like = g.same; glued = put ∙ sym g.glued ∙ sym (ap (λ x. glue eq x g.tail) (left_apart q)) }
