-- A walk up the entries of an ordered list: the keys that have values so far, and the first gap.
use Rattle.blaze_table.proofs.Words.{◌≡◌, ℤ, pos, ◌+ℤ◌, ◌-ℤ◌, ◌≤ℤ◌, ◌<ℤ◌, Bool, true, false, List, [], ◌∷◌, Option, Some, None, refl, ◌∙◌, sym, subst, ap, arith, inl, inr, ◌⊎◌, ◌↔◌, IsSome, IsTrue, ints, by_lt_z, same_along, AreKeys, ending_from, Entry, at, SameOption, IsMappedFrom, never_equal, IsGapEnd, IsNextGap, IsOrdered, IsAbove, IsAbove-from_apart, at_in, at_under, at_over, at_before, by_place, ending_all, ending_skips, ending_takes}

module _ {V : Type 0} where
  -- the first entry ends at k or above
  abbrev pub IsEndingFrom : ℤ → List (Entry V) → Type 0
  IsEndingFrom k [] = Unit {0}
  IsEndingFrom k (e ∷ es) = k ≤ℤ e.hi

  ends_above : (k : ℤ) (es : List (Entry V)) → IsOrdered es → IsAbove k es → IsEndingFrom k es
  ends_above k [] c a = tt
  ends_above k (e ∷ es) c a = omega (arith, ints, c.0)

  -- no key outside the type's keys has a value
  pub none_under : (low high k : ℤ) (es : List (Entry V)) → AreKeys low high es → k <ℤ low → at es k ≡ None
  none_under low high k [] a l = refl
  none_under low high k (e ∷ es) a l = at_under e es k (omega (arith, ints, a.0)) ∙ none_under low high k es a.2 l

  none_over : (low high k : ℤ) (es : List (Entry V)) → AreKeys low high es → high <ℤ k → at es k ≡ None
  none_over low high k [] a l = refl
  none_over low high k (e ∷ es) a l = at_over e es k (omega (arith, ints, a.1)) ∙ none_over low high k es a.2 l

  -- the entries that end at p or above are the whole list if the first one does
  ending_whole : (p : ℤ) (e : Entry V) (es : List (Entry V)) → IsOrdered (e ∷ es) → p ≤ℤ e.hi → ending_from p (e ∷ es) ≡ e ∷ es
  ending_whole p e es c l = ending_takes p e es l ∙ ap (λ t. e ∷ t) (ending_all never_equal p e.hi es c.2 l (IsAbove-from_apart never_equal e es c.1))

  ending_ordered : (p : ℤ) (es : List (Entry V)) → IsOrdered es → IsOrdered (ending_from p es)
  ending_ordered p [] c = tt
  ending_ordered p (e ∷ es) c = by_lt_z e.hi p
      (λ l. subst IsOrdered (sym (ending_skips p e es l)) (ending_ordered p es c.2))
      (λ l. subst IsOrdered (sym (ending_whole p e es c l)) c)

  ending_ends : (p j : ℤ) (es : List (Entry V)) → IsOrdered es → j ≤ℤ p → IsEndingFrom j (ending_from p es)
  ending_ends p j [] c o = tt
  ending_ends p j (e ∷ es) c o = by_lt_z e.hi p
      (λ l. subst (IsEndingFrom j) (sym (ending_skips p e es l)) (ending_ends p j es c.2 o))
      (λ l. subst (IsEndingFrom j) (sym (ending_whole p e es c l)) (omega (arith, ints)))

  ending_at : (p k : ℤ) (es : List (Entry V)) → IsOrdered es → p ≤ℤ k → at (ending_from p es) k ≡ at es k
  ending_at p k [] c o = refl
  ending_at p k (e ∷ es) c o = by_lt_z e.hi p
      (λ l. ap (λ (x : List (Entry V)). at x k) (ending_skips p e es l) ∙ ending_at p k es c.2 o ∙ sym (at_over e es k (omega (arith, ints))))
      (λ l. ap (λ (x : List (Entry V)). at x k) (ending_whole p e es c l))

  not_none : (x : V) (o : Option V) → o ≡ Some x → o ≡ None → ⊥
  not_none x o q r = cc

  none_behind : (e : Entry V) (es : List (Entry V)) (k : ℤ) → at (e ∷ es) k ≡ None → at es k ≡ None
  none_behind e es k n = by_place e k
      (λ a b. absurd (not_none e.value (at (e ∷ es) k) (at_in e es k a b) n))
      (λ a. sym (at_under e es k a) ∙ n)
      (λ b. sym (at_over e es k b) ∙ n)

  ending_none : (p k : ℤ) (es : List (Entry V)) → IsOrdered es → at es k ≡ None → at (ending_from p es) k ≡ None
  ending_none p k [] c n = refl
  ending_none p k (e ∷ es) c n = by_lt_z e.hi p
      (λ l. ap (λ (x : List (Entry V)). at x k) (ending_skips p e es l) ∙ ending_none p k es c.2 (none_behind e es k n))
      (λ l. ap (λ (x : List (Entry V)). at x k) (ending_whole p e es c l) ∙ n)

module _ {V : Type 0} (eq : V → V → Bool) (v : V) where
  not_equal : (o : Option V) → o ≡ None → SameOption eq o (Some v) → ⊥
  not_equal o p s = same_along eq {c = None} p refl s

  -- a key is below the greatest if the next key has a value equal to v
  pub is_under : (low high k : ℤ) (es : List (Entry V)) → AreKeys low high es → SameOption eq (at es (k +ℤ pos 1)) (Some v) → k <ℤ high
  is_under low high k es a s = by_lt_z k high (λ l. l) (λ l. absurd (not_equal (at es (k +ℤ pos 1)) (none_over low high (k +ℤ pos 1) es a (omega (arith, ints))) s))

  neither : (o : Option V) → o ≡ None → IsTrue false ↔ SameOption eq o (Some v)
  neither o p = (λ t. cc, λ s. absurd (not_equal o p s))

  equal_is : (o : Option V) (w : V) (t : Bool) → o ≡ Some w → t ≡ eq w v → IsTrue t ↔ SameOption eq o (Some v)
  equal_is o w t p q = subst (λ x. IsTrue t ↔ SameOption eq x (Some v)) (sym p) (subst (λ b. IsTrue b ↔ (eq w v ≡ true)) (sym q) (λ x. x, λ x. x))

  -- The keys from l to before `key` have values, and t says whether the last of them equals v. The remaining entries
  -- have the content from `key` on.
  pub record IsWalked (content : ℤ → Option V) (l key : ℤ) (t : Bool) (rest : List (Entry V)) : Type 0 where
    pub ordered : IsOrdered rest
    pub ends : IsEndingFrom (key -ℤ pos 1) rest
    pub from : l ≤ℤ key
    pub held : IsMappedFrom content l (key -ℤ pos 1)
    pub same : (k : ℤ) → key ≤ℤ k → content k ≡ at rest k
    pub last : (at rest (key -ℤ pos 1) ≡ None) ⊎ (content (key -ℤ pos 1) ≡ at rest (key -ℤ pos 1))
    pub below : at rest (key -ℤ pos 1) ≡ None → IsTrue t ↔ SameOption eq (content (key -ℤ pos 1)) (Some v)

  -- the entries that end right below l or above
  pub walked_first : (low high l p : ℤ) (es : List (Entry V)) → IsOrdered es → AreKeys low high es → (p ≡ l -ℤ pos 1) ⊎ ((p ≡ l) × (l ≤ℤ low)) → IsWalked (at es) l l false (ending_from p es)
  walked_first low high l p es c a o = record {
    ordered = ending_ordered p es c;
    ends = ending_ends p (l -ℤ pos 1) es c near;
    from = omega (arith, ints);
    held = λ k x y. absurd (omega (arith, ints));
    same = λ k x. sym (ending_at p k es c (omega (arith, ints, up)));
    last = elim o [
      | inl q ↦ inr (sym (ending_at p (l -ℤ pos 1) es c (omega (arith, ints))))
      | inr q ↦ inl (ending_none p (l -ℤ pos 1) es c (none_under low high (l -ℤ pos 1) es a (omega (arith, ints, q.1))))
    ];
    below = λ n. neither (at es (l -ℤ pos 1)) (elim o [
      | inl q ↦ sym (ending_at p (l -ℤ pos 1) es c (omega (arith, ints))) ∙ n
      | inr q ↦ none_under low high (l -ℤ pos 1) es a (omega (arith, ints, q.1))
    ]);
  }
    where
      near : (l -ℤ pos 1) ≤ℤ p
      near = elim o [ inl q ↦ omega (arith, ints) | inr q ↦ omega (arith, ints, q.0) ]

      up : p ≤ℤ l
      up = elim o [ inl q ↦ omega (arith, ints) | inr q ↦ omega (arith, ints, q.0) ]

  module _ (content : ℤ → Option V) (l key : ℤ) (t : Bool) where
    module _ (e : Entry V) (es : List (Entry V)) (w : IsWalked content l key t (e ∷ es)) where
      -- the next entry starts at `key` or below
      module _ (near : e.lo ≤ℤ key) where
        pub walked_held : (h : ℤ) → h ≤ℤ e.hi → IsMappedFrom content l h
        walked_held h o k a b = by_lt_z k key
            (λ x. w.held k a (omega (arith, ints)))
            (λ x. subst IsSome (sym (w.same k x ∙ at_in e es k (omega (arith, ints)) (omega (arith, ints)))) refl)

        value_last : content e.hi ≡ Some e.value
        value_last = by_lt_z e.hi key
            (λ x.
            let is : key -ℤ pos 1 ≡ e.hi = omega (arith, ints, w.ends) in
            let here : at (e ∷ es) e.hi ≡ Some e.value = at_in e es e.hi w.ordered.0 (omega (arith, ints)) in
            subst (λ k. content k ≡ Some e.value) is (elim w.last [
              | inl n ↦ absurd (not_none e.value (at (e ∷ es) e.hi) here (subst (λ k. at (e ∷ es) k ≡ None) is n))
              | inr q ↦ q ∙ subst (λ k. at (e ∷ es) k ≡ Some e.value) (sym is) here
            ]))
            (λ x. w.same e.hi x ∙ at_in e es e.hi w.ordered.0 (omega (arith, ints)))

        pub walked_next : (j : ℤ) (s : Bool) → j ≡ e.hi +ℤ pos 1 → s ≡ eq e.value v → IsWalked content l j s es
        walked_next j s q r =
            let above = IsAbove-from_apart never_equal e es w.ordered.1 in
            let is : e.hi ≡ j -ℤ pos 1 = omega (arith, ints) in record {
              ordered = w.ordered.2;
              ends = subst (λ k. IsEndingFrom k es) is (ends_above e.hi es w.ordered.2 above);
              from = omega (arith, ints, w.from, w.ends);
              held = walked_held (j -ℤ pos 1) (omega (arith, ints));
              same = λ k x. w.same k (omega (arith, ints, w.ends)) ∙ at_over e es k (omega (arith, ints));
              last = inl (at_before never_equal es e.hi (j -ℤ pos 1) w.ordered.2 above (omega (arith, ints)));
              below = λ _. equal_is (content (j -ℤ pos 1)) e.value s (subst (λ k. content k ≡ Some e.value) is value_last) r;
            }

      -- the next entry starts above it, and the gap ends at b
      module _ (b h : ℤ) (g : IsGapEnd key h e.lo b) where
        none_before : (k : ℤ) → k <ℤ e.lo → at (e ∷ es) k ≡ None
        none_before k x = at_before never_equal (e ∷ es) (e.lo -ℤ pos 1) k w.ordered (omega (arith, ints)) (omega (arith, ints))

        value_next : e.lo ≡ b +ℤ pos 1 → content (b +ℤ pos 1) ≡ Some e.value
        value_next q = w.same (b +ℤ pos 1) (omega (arith, ints, g.order)) ∙ at_in e es (b +ℤ pos 1) (omega (arith, ints)) (omega (arith, ints, w.ordered.0))

        pub walked_gap : (s u : Bool) → s ≡ eq e.value v → IsTrue u ↔ ((e.lo ≡ b +ℤ pos 1) × IsTrue s) → IsNextGap eq content v l h key b t u
        walked_gap s u r f =
            let order = g.order in
            let under = g.under in
            record {
              gap = record {
                from = w.from;
                order = order;
                to = g.to;
                held = λ k x y. w.held k x (omega (arith, ints));
                clear = λ k x y. w.same k x ∙ none_before k (omega (arith, ints));
                greatest = elim g.greatest [ inl q ↦ inl q | inr q ↦ inr (subst IsSome (sym (value_next q)) refl) ];
              };
              beside = record {
                below = w.below (none_before (key -ℤ pos 1) (omega (arith, ints)));
                above = (
                  λ x. let p = f.0 x in (equal_is (content (b +ℤ pos 1)) e.value s (value_next p.0) r).0 p.1,
                  λ x. by_lt_z (b +ℤ pos 1) e.lo
                      (λ y. absurd (not_equal (content (b +ℤ pos 1)) (w.same (b +ℤ pos 1) (omega (arith, ints)) ∙ none_before (b +ℤ pos 1) y) x))
                      (λ y. let q : e.lo ≡ b +ℤ pos 1 = omega (arith, ints) in f.1 (q, (equal_is (content (b +ℤ pos 1)) e.value s (value_next q) r).1 x)),
                );
              };
            }

    -- no entry remains
    module _ (h : ℤ) (order : key ≤ℤ h) (w : IsWalked content l key t []) where
      pub end_gap : IsNextGap eq content v l h key h t false
      end_gap = record {
        gap = record {
          from = w.from;
          order = order;
          to = omega (arith, ints);
          held = λ k x y. w.held k x (omega (arith, ints));
          clear = λ k x y. w.same k x;
          greatest = inl refl;
        };
        beside = record { below = w.below refl; above = neither (content (h +ℤ pos 1)) (w.same (h +ℤ pos 1) (omega (arith, ints))) };
      }
