-- The entries on the keys of a range, as a walk meets them.
use Rattle.range_map_blaze.proofs.Words.{◌≡◌, ℤ, pos, ◌+ℤ◌, ◌-ℤ◌, ◌≤ℤ◌, ◌<ℤ◌, Bool, true, cond, List, [], ◌∷◌, ◌++◌, None, refl, ◌∙◌, sym, ap, subst, arith, append_assoc, append-nil, IsEquivalence, ints, by_lt_z, map-append, lt_true, lt_false, max_right, same_itself, IsCanonical, IsRangeMap, left_with_right, IsChosen, ending_from, Entry, entry, at, shown_entry, SameEntries, SameOption, shown_list, int_max, int_min, before, after, IsCopied, before_none, are_keys_before, are_keys_after, IsAbove-from_apart, at_before, at_in, at_under, at_over, by_place, above_by, canonical, one_per_run, after_all, ending_takes, ending_skips, ending_all, after_skips, after_keeps, before_keeps, before_cuts, by_after, canonical_after, canonical_before, above_after, at-after_over, at-before_over, at-before_under, one_range, within, chosen}
use Rattle.range_map_blaze.proofs.Choices.{chosen_as}

pub by_earlier : {P : Type 0} (a b : ℤ) → (a ≤ℤ b → int_min b a ≡ a → P) → (b <ℤ a → int_min b a ≡ b → P) → P
by_earlier a b l r = by_lt_z a b
    (λ u. l (omega (arith, ints)) (ap (λ t. cond t a b) (lt_true a b u)))
    (λ u. by_lt_z b a
    (λ v. r v (ap (λ t. cond t a b) (lt_false a b u)))
    (λ v. l v (ap (λ t. cond t a b) (lt_false a b u) ∙ omega (arith, ints))))

-- the first ends at l or above
abbrev pub EndsFrom : {V : Type 0} → ℤ → List (Entry V) → Type 0
EndsFrom l [] = Unit {0}
EndsFrom l (e ∷ es) = l ≤ℤ e.hi

max_under : (a b : ℤ) → b <ℤ a → int_max a b ≡ a
max_under a b l = grind (arith, ints)

module _ {V : Type 0} (eq : V → V → Bool) where
  -- ---- a walk over the entries from the key l on

  -- what is left of it
  pub record IsOnward (l : ℤ) (es : List (Entry V)) : Type 0 where
    pub canonical : IsCanonical eq es
    pub ends : EndsFrom l es

  -- at first it has all on the keys from l up to h
  pub record IsWhole (l h : ℤ) (es left : List (Entry V)) : Type 0 where
    pub onward : IsOnward l left
    pub same : within l h left ≡ within l h es

  pub whole_first : (l h : ℤ) (es : List (Entry V)) → IsCanonical eq es → IsWhole l h es (ending_from l es)
  whole_first l h [] c = record { onward = record { canonical = tt; ends = tt }; same = refl }
  whole_first l h (e ∷ es) c = by_lt_z e.hi l
      (λ u.
      let later = whole_first l h es c.2 in
      rw (ending_skips l e es u) (record {
        onward = later.onward;
        same = later.same ∙ sym (ap (before (h +ℤ pos 1)) (after_skips (l -ℤ pos 1) e es (omega (arith, ints))));
      }))
      (λ u. rw (ending_takes l e es u, ending_all eq l e.hi es c.2 u (IsAbove-from_apart eq e es c.1)) (record {
        onward = record { canonical = c; ends = u };
        same = refl;
      }))

  module _ (l h : ℤ) (e : Entry V) (es : List (Entry V)) (o : IsOnward l (e ∷ es)) where
    -- the next entry, if its range starts up to h, without its keys off the range
    pub within_next : l ≤ℤ h → e.lo ≤ℤ h → within l h (e ∷ es) ≡ entry (int_max l e.lo) (int_min h e.hi) e.value ∷ within l h es
    within_next w u =
        let later = IsAbove-from_apart eq e es o.canonical.1 in
        let all = after_all eq (l -ℤ pos 1) es o.canonical.2 (above_by e.hi (l -ℤ pos 1) es (omega (arith, ints, o.ends)) later) in
        ap (before (h +ℤ pos 1)) starts
        ∙ by_earlier e.hi h
        (λ v p. rw (p, all) (before_keeps (h +ℤ pos 1) (entry (int_max l e.lo) e.hi e.value) es (omega (arith, ints))))
        (λ v p.
        let none = before_none eq (h +ℤ pos 1) es o.canonical.2 (above_by e.hi (h +ℤ pos 1 -ℤ pos 1) es (omega (arith, ints)) later) in
        before_cuts (h +ℤ pos 1) (entry (int_max l e.lo) e.hi e.value) es (omega (arith, ints)) under
        ∙ ap (λ x. entry (int_max l e.lo) x e.value ∷ []) (omega (arith, ints))
        ∙ ap (λ t. entry (int_max l e.lo) h e.value ∷ t) (sym (ap (before (h +ℤ pos 1)) all ∙ none))
        ∙ ap (λ x. entry (int_max l e.lo) x e.value ∷ within l h es) (sym p))
      where
        starts : after (l -ℤ pos 1) (e ∷ es) ≡ entry (int_max l e.lo) e.hi e.value ∷ es
        starts = by_after (l -ℤ pos 1) e es
            (λ a p. absurd (omega (arith, ints, o.ends)))
            (λ a b p. p ∙ ap (λ x. entry x e.hi e.value ∷ es) (omega (arith, ints, max_under l e.lo (omega (arith, ints)))))
            (λ a b p. p ∙ ap (λ x. entry x e.hi e.value ∷ es) (sym (max_right l e.lo (omega (arith, ints)))))

        under : int_max l e.lo <ℤ (h +ℤ pos 1)
        under = grind (arith, ints)

    -- none, if it starts above
    pub within_over : l ≤ℤ h → h <ℤ e.lo → within l h (e ∷ es) ≡ []
    within_over w u =
        ap (before (h +ℤ pos 1)) (after_keeps (l -ℤ pos 1) e es (omega (arith, ints, o.ends)) (omega (arith, ints)))
        ∙ before_none eq (h +ℤ pos 1) (e ∷ es) o.canonical (omega (arith, ints))

    pub onward_next : IsOnward l es
    onward_next = by_rest es o.canonical
      where
        by_rest : (es : List (Entry V)) → IsCanonical eq (e ∷ es) → IsOnward l es
        by_rest [] c = record { canonical = tt; ends = tt }
        by_rest (f ∷ fs) c = record { canonical = c.2; ends = omega (arith, ints, o.ends, c.1.0, c.2.0) }

  -- ---- what they have at each key

  module _ (laws : IsEquivalence eq) (low high l h : ℤ) (es : List (Entry V)) where
    -- what the entries have on the keys from l up to h
    pub content_within : (k : ℤ) → IsCanonical eq es → IsCanonical eq (after (l -ℤ pos 1) es) → at (within l h es) k ≡ left_with_right (at es k) (at (one_range l h) k)
    content_within k c d =
        let one : Entry (Unit {0}) = entry l h tt in
        let above = after (l -ℤ pos 1) es in
        by_place one k
        (λ a b. at-before_under eq (h +ℤ pos 1) k above d (omega (arith, ints))
        ∙ at-after_over eq (l -ℤ pos 1) k es c (omega (arith, ints))
        ∙ sym (ap (left_with_right (at es k)) (at_in one [] k a b)))
        (λ a. none_under k c d (omega (arith, ints)) ∙ sym (ap (left_with_right (at es k)) (at_under one [] k a)))
        (λ b. at-before_over eq (h +ℤ pos 1) k above (omega (arith, ints)) ∙ sym (ap (left_with_right (at es k)) (at_over one [] k b)))
      where
        none_under : (k : ℤ) → IsCanonical eq es → IsCanonical eq (after (l -ℤ pos 1) es) → k <ℤ l → at (within l h es) k ≡ None
        none_under k c d u = by_lt_z k (h +ℤ pos 1)
            (λ v. at-before_under eq (h +ℤ pos 1) k (after (l -ℤ pos 1) es) d v
            ∙ at_before eq (after (l -ℤ pos 1) es) (l -ℤ pos 1) k d (above_after (l -ℤ pos 1) es) (omega (arith, ints)))
            (λ v. at-before_over eq (h +ℤ pos 1) k (after (l -ℤ pos 1) es) v)

    pub within_chosen : IsRangeMap eq low high es → IsChosen eq low high left_with_right es (one_range l h) (within l h es)
    within_chosen r =
        let c = canonical eq laws es r.runs in
        let d = canonical_after eq (l -ℤ pos 1) es c in
        chosen (record {
          runs = one_per_run eq laws (within l h es) (canonical_before eq (h +ℤ pos 1) (after (l -ℤ pos 1) es) d);
          keys = are_keys_before eq low high (h +ℤ pos 1) (after (l -ℤ pos 1) es) (are_keys_after eq low high (l -ℤ pos 1) es r.keys);
        }) (λ k.
        let chosen = left_with_right (at es k) (at (one_range l h) k) in
        subst (λ x. SameOption eq x chosen) (sym (content_within k c d)) (same_itself eq laws chosen))

    pub clones_chosen : (clones : List (Entry V)) → IsRangeMap eq low high es → SameEntries eq (within l h es) clones → IsChosen eq low high left_with_right es (one_range l h) clones
    clones_chosen clones r s = chosen_as eq laws low high left_with_right es (one_range l h) (within l h es) clones (within_chosen r) s

-- ---- their clones, put one after another

module _ {T V : Type 0} (rank : T → ℤ) (eq : V → V → Bool) (all : List (Entry V)) where
  -- nothing is copied yet
  pub copied_none : (left : List (Entry V)) (items : List (T × T × V)) → left ≡ all → items ≡ [] → IsCopied rank eq all left items
  copied_none left items p q fs s = subst (λ xs. SameEntries eq all (shown_list rank xs ++ fs)) (sym q) (subst (λ es. SameEntries eq es fs) p s)

  -- the first of what is left, copied with an equal value
  pub copied_more : (rest left : List (Entry V)) (e : Entry V) (x : T × T × V) (items new : List (T × T × V)) → IsCopied rank eq all (e ∷ rest) items → left ≡ rest
      → e.lo ≡ rank x.0 → e.hi ≡ rank x.1 → eq e.value x.2 ≡ true → new ≡ items ++ x ∷ [] → IsCopied rank eq all left new
  copied_more rest left e x items new i p lo hi v q fs s =
      let shown = shown_entry rank (λ w. w) in
      let more = ap (λ xs. shown_list rank xs ++ fs) q ∙ ap (λ es. es ++ fs) (map-append shown items (x ∷ [])) ∙ append_assoc (shown_list rank items) (shown x ∷ []) fs in
      subst (SameEntries eq all) (sym more) (i (shown x ∷ fs) (lo, hi, v, subst (λ es. SameEntries eq es fs) p s))

  -- nothing is left
  pub copied_all : (items : List (T × T × V)) → IsCopied rank eq all [] items → SameEntries eq all (shown_list rank items)
  copied_all items i = subst (SameEntries eq all) (append-nil (shown_list rank items)) (i [] tt)
