-- A key is removed from the entry that contains it: the edits, what they require of the entry, and their result.
use Rattle.blaze_table.proofs.Words.{◌≡◌, ℕ, Bool, ℤ, pos, ◌+ℤ◌, ◌-ℤ◌, ◌≤ℤ◌, ◌<ℤ◌, true, cond, List, [], ◌∷◌, ◌++◌, Option, Some, None, Result, Ok, Err, OnErr, refl, ◌∙◌, sym, subst, ap, arith, IsEquivalence, option_map, IsSome, IsSomeAnd, ints, by_lt_z, append_assoc, lt_true, lt_false, IsManyCloned, range_in, StartsAscend, last_below, entry_reaching, holder_of, start_at, with_entry, without, with_end, IsStartMoved, one_value, same_along, more_below, IsCanonical, IsAmongOthers, Entry, entry, at, entry_at, SameEntries, SameOption, ClonesAreAlike, before, after, IsBelow, IsListWithoutKey, IsKeyTaken, IsKeyCut, covered_keys, IsTable, overlap_whole, IsAbove, at_over, at_before, entry_in, entry_over, before_past, after_past, entries_themselves, before_cuts, before_ends, after_cuts, below_more}
use Rattle.blaze_table.proofs.Cuts.Cutting.{after_whole, cut_content, cut_table, at_cut, covered_past, covered_fits}
use Rattle.blaze_table.proofs.Cuts.Splits.{LastAt, last_at, no_last_from, parted, rest_canonical, ends_below, none_next}
use Rattle.blaze_table.proofs.Neighbours.Growing.{last_there}
use Rattle.blaze_table.proofs.Neighbours.Holders.{starts_behind, starts_over, with_entry-between, without-between}
use Rattle.blaze_entries.proofs.EditLists.{end_put}

module _ {V : Type 0} where
  -- the value at a key, after entries that end below it
  at_past : (k : ℤ) (xs ys : List (Entry V)) → IsBelow k xs → at (xs ++ ys) k ≡ at ys k
  at_past k [] ys b = refl
  at_past k (x ∷ xs) ys b = at_over x (xs ++ ys) k b.0 ∙ at_past k xs ys b.1

  entry_past : (k : ℤ) (xs ys : List (Entry V)) → IsBelow k xs → entry_at (xs ++ ys) k ≡ entry_at ys k
  entry_past k [] ys b = refl
  entry_past k (x ∷ xs) ys b = entry_over x (xs ++ ys) k b.0 ∙ entry_past k xs ys b.1

  pub above_from : (k j high : ℤ) (es : List (Entry V)) → j <ℤ k → StartsAscend k high es → IsAbove j es
  above_from k j high [] l a = tt
  above_from k j high (e ∷ es) l a = omega (arith, ints, a.0)

-- the last entry that starts below b contains the keys up to its end
pub entry_held : {V : Type 0} (eq : V → V → Bool) (b high : ℤ) (e : Entry V) (es : List (Entry V)) → LastAt b high e es → IsCanonical eq es → (j : ℤ) → e.lo ≤ℤ j → j ≤ℤ e.hi → entry_at es j ≡ Some e
entry_held eq b high e es i c j l u =
    ap (λ xs. entry_at xs j) i.parts
    ∙ entry_past j i.front (e ∷ i.back) (below_more e.lo j i.front l (ends_below eq i.front e i.back (subst (IsCanonical eq) i.parts c))) ∙ entry_in e i.back j l u

module _ {V : Type 0} (eq : V → V → Bool) (laws : IsEquivalence eq) (k low high : ℤ) (es : List (Entry V)) (s : StartsAscend low high es) (c : IsCanonical eq es) where
  -- the entry that contains the key, and a fact about it
  pub record HasKey (P : Entry V → Type 0) : Type 0 where
    pub of : Entry V
    pub last : LastAt (k +ℤ pos 1) high of es
    pub up : k ≤ℤ of.hi
    pub holds : P of

  pub has_key : (P : Entry V → Type 0) → IsSomeAnd (holder_of k es) P → HasKey P
  has_key P i = by_last (last_below (k +ℤ pos 1) es) refl i
    where
      by_last : (o : Option (Entry V)) → last_below (k +ℤ pos 1) es ≡ o → IsSomeAnd (entry_reaching k o) P → HasKey P
      by_last None q i = absurd i
      by_last (Some e) q i = by_lt_z e.hi k
          (λ u. absurd (subst (λ b. IsSomeAnd (cond b None (Some e)) P) (lt_true e.hi k u) i))
          (λ u. record { of = e; last = last_at (k +ℤ pos 1) low high e es s q; up = u; holds = subst (λ b. IsSomeAnd (cond b None (Some e)) P) (lt_false e.hi k u) i })

  module _ (e : Entry V) (i : LastAt (k +ℤ pos 1) high e es) where
    starts : e.lo ≤ℤ k
    starts = omega (arith, ints, i.starts)

    under : IsBelow k i.front
    under = below_more e.lo k i.front starts (ends_below eq i.front e i.back (parted eq k high e es i c))

    canonical : IsCanonical eq (e ∷ i.back)
    canonical = rest_canonical eq k high e es i c

    over : IsAbove k i.back
    over = above_from (k +ℤ pos 1) k high i.back (omega (arith, ints)) i.back_from

    ended : e.hi <ℤ k → at es k ≡ None
    ended u = ap (λ l. at l k) i.parts ∙ at_past k i.front (e ∷ i.back) under ∙ at_over e i.back k u ∙ at_before eq i.back k k canonical.2 over (omega (arith, ints))

    -- the entry is replaced by its part below the key, and the part above it
    cut_apart : (xs above new : List (Entry V)) → before k (e ∷ i.back) ≡ xs → SameEntries eq (after k (e ∷ i.back)) above → new ≡ i.front ++ (xs ++ above) → IsListWithoutKey eq k es new
    cut_apart xs above new p like q = record {
      above = above;
      like = subst (λ l. SameEntries eq l above) (sym (ap (after k) i.parts ∙ after_past k k i.front (e ∷ i.back) (omega (arith, ints)) under)) like;
      joined = q ∙ sym (append_assoc i.front xs above) ∙ ap (λ l. l ++ above) (sym (ap (before k) i.parts ∙ before_past k i.front (e ∷ i.back) under ∙ ap (λ l. i.front ++ l) p));
    }

    -- the entry ends at the key: the part above is the entries after it
    back_like : e.hi ≤ℤ k → k ≤ℤ e.hi → SameEntries eq (after k (e ∷ i.back)) i.back
    back_like h l = subst (λ xs. SameEntries eq xs i.back) (sym (after_whole eq k e i.back canonical h l)) (entries_themselves eq laws i.back)

    -- the edits of the entry, which starts at a and ends at z
    module _ (a z : ℤ) (ends : (a, z) ≡ range_in e) where
      at_lo : a ≡ e.lo
      at_lo = ap (λ (t : ℤ × ℤ). t.0) ends

      at_hi : z ≡ e.hi
      at_hi = ap (λ (t : ℤ × ℤ). t.1) ends

      shortened : (y : ℤ) → y +ℤ pos 1 ≡ k → (ys : List (Entry V)) → with_end a y (i.front ++ e ∷ ys) ≡ i.front ++ entry e.lo (k -ℤ pos 1) e.value ∷ ys
      shortened y t ys =
          ap (λ x. with_end x y (i.front ++ e ∷ ys)) at_lo ∙ end_put e.lo y e i.front ys refl i.front_below
          ∙ ap (λ x. i.front ++ entry e.lo x e.value ∷ ys) (omega (arith, ints, t))

      there : start_at a es ≡ Some e
      there = ap (λ x. start_at x es) at_lo ∙ last_there (k +ℤ pos 1) high e es i

      present : IsSome (start_at a es)
      present = subst (λ o. IsSome o) (sym there) refl

      -- the entry ends at the key: its end moves down
      end_cut : a <ℤ z → z ≤ℤ k → k ≤ℤ z → (y : ℤ) → y +ℤ pos 1 ≡ k → (new : List (Entry V)) → new ≡ with_end a y es → IsListWithoutKey eq k es new
      end_cut long under up y t new q =
          let lo = at_lo in
          let hi = at_hi in
          cut_apart (entry e.lo (k -ℤ pos 1) e.value ∷ []) i.back new (before_cuts k e i.back (omega (arith, ints)) (omega (arith, ints)))
          (back_like (omega (arith, ints)) (omega (arith, ints)))
          (q ∙ ap (with_end a y) i.parts ∙ shortened y t i.back)

      -- the entry extends above the key
      module _ (over : k <ℤ z) where
        back_over : StartsAscend (e.hi +ℤ pos 1) high i.back
        back_over = starts_over eq (k +ℤ pos 1) high e i.back canonical.1 i.back_from

        none_above : start_at (k +ℤ pos 1) es ≡ None
        none_above = let hi = at_hi in none_next eq k high e es i c low s (omega (arith, ints))

        module _ (p : Entry V) (next : p.lo ≡ k +ℤ pos 1) (end : p.hi ≡ z) (like : eq e.value p.value ≡ true) where
          like_above : SameEntries eq (after k (e ∷ i.back)) (p ∷ i.back)
          like_above =
              let hi = at_hi in
              subst (λ l. SameEntries eq l (p ∷ i.back)) (sym (after_cuts k e i.back (omega (arith, ints)) starts)) (sym next, omega (arith, ints), like, entries_themselves eq laws i.back)

          -- the entry starts at the key: its start moves up
          front_cut : k ≤ℤ a → (new : List (Entry V)) → new ≡ with_entry p (without a es) → IsListWithoutKey eq k es new
          front_cut l new q =
              let lo = at_lo in
              let hi = at_hi in
              let first = starts in
              cut_apart [] (p ∷ i.back) new (before_ends k e i.back (omega (arith, ints)) (omega (arith, ints))) like_above
              (q ∙ ap (λ x. with_entry p (without a x)) i.parts ∙ ap (with_entry p) (without-between a e i.front i.back (sym lo) (more_below e.lo a i.front (omega (arith, ints)) i.front_below))
              ∙ with_entry-between p (e.hi +ℤ pos 1) high i.front i.back (more_below e.lo p.lo i.front (omega (arith, ints)) i.front_below) (omega (arith, ints)) back_over)

          -- the entry starts below the key: a new entry is inserted, and its end moves down
          inside_cut : a <ℤ k → (y : ℤ) → y +ℤ pos 1 ≡ k → (mid new : List (Entry V)) → mid ≡ with_entry p es → new ≡ with_end a y mid → IsListWithoutKey eq k es new
          inside_cut l y t mid new m q =
              let lo = at_lo in
              let hi = at_hi in
              let xs = i.front ++ e ∷ [] in
              let behind = starts_behind p.lo i.front e (more_below e.lo p.lo i.front (omega (arith, ints)) i.front_below) (omega (arith, ints)) in
              let put : with_entry p es ≡ i.front ++ e ∷ p ∷ i.back = ap (with_entry p) (i.parts ∙ sym (append_assoc i.front (e ∷ []) i.back)) ∙ with_entry-between p (e.hi +ℤ pos 1) high xs i.back behind (omega (arith, ints)) back_over ∙ append_assoc i.front (e ∷ []) (p ∷ i.back) in
              cut_apart (entry e.lo (k -ℤ pos 1) e.value ∷ []) (p ∷ i.back) new (before_cuts k e i.back (omega (arith, ints)) (omega (arith, ints))) like_above
              (q ∙ ap (with_end a y) (m ∙ put) ∙ shortened y t (p ∷ i.back))

        -- no entry starts at the next key
        none_at_next : (n : ℤ) → n ≡ k +ℤ pos 1 → start_at n es ≡ None
        none_at_next n next = ap (λ x. start_at x es) next ∙ none_above

        start_cut : (n : ℤ) → n ≡ k +ℤ pos 1 → k ≤ℤ a → (new : List (Entry V)) → IsStartMoved a n es new → IsListWithoutKey eq k es new
        start_cut n next l new w =
            let one : w.of ≡ e = one_value (start_at a es) w.found there in
            front_cut (entry n w.of.hi w.of.value) next (ap (λ (x : Entry V). x.hi) one ∙ sym at_hi) (subst (λ (x : Entry V). eq e.value x.value ≡ true) (sym one) (laws.refl e.value)) l new w.moved

        between_cut : (n : ℤ) → n ≡ k +ℤ pos 1 → (v w : V) → eq e.value v ≡ true → eq v w ≡ true → a <ℤ k → (y : ℤ) → y +ℤ pos 1 ≡ k → (mid new : List (Entry V)) → mid ≡ with_entry (entry n z w) es → new ≡ with_end a y mid → IsListWithoutKey eq k es new
        between_cut n next v w like copy l y t mid new m q = inside_cut (entry n z w) next refl (sym (laws.congr v e.value w (laws.symm v e.value ∙ like)) ∙ copy) l y t mid new m q

    module _ (up : k ≤ℤ e.hi) where
      -- the value at the key
      at_held : at es k ≡ Some e.value
      at_held = ap (λ l. at l k) i.parts ∙ at_cut eq k i.front under e i.back starts up

      pub value_held : (v : V) → eq e.value v ≡ true → SameOption eq (at es k) (Some v)
      value_held v q = same_along eq (sym at_held) refl q

      pub among_others : e.lo <ℤ e.hi → IsAmongOthers k es
      among_others u = record { entry = e; here = entry_held eq (k +ℤ pos 1) high e es i c k starts up; long = u }

      one_covered : covered_keys k k es ≡ pos 1
      one_covered =
          ap (covered_keys k k) i.parts ∙ covered_past eq k k (omega (arith, ints)) i.front under e i.back (parted eq k high e es i c) over
          ∙ omega (arith, ints, overlap_whole k k e starts (omega (arith, ints)) up)

      -- the entry has one key
      module _ (one : e.hi ≤ℤ e.lo) where
        lo : e.lo ≡ k
        lo = let l = starts in omega (arith, ints)

        pub found : start_at k es ≡ Some e
        found = ap (λ x. start_at x es) (sym lo) ∙ last_there (k +ℤ pos 1) high e es i

        pub value_removed : (v : V) → option_map (λ f. f.value) (start_at k es) ≡ Some v → SameOption eq (at es k) (Some v)
        value_removed v q = same_along eq (sym (at_held ∙ ap (option_map (λ f. f.value)) (sym found) ∙ q)) refl (laws.refl v)

        pub whole_cut : IsListWithoutKey eq k es (without k es)
        whole_cut =
            let l = lo in
            cut_apart [] i.back (without k es) (before_ends k e i.back up (omega (arith, ints))) (back_like (omega (arith, ints)) up)
            (ap (without k) i.parts ∙ without-between k e i.front i.back lo (more_below e.lo k i.front starts i.front_below))

  -- a lookup returned that the entry has other keys too, and a clone of its value
  module _ (is_clone : V → V → Type 0) (alike : ClonesAreAlike is_clone eq) (a z : ℤ) (v : V) (held : IsSomeAnd (holder_of k es) (λ e. ((a, z) ≡ range_in e) × IsManyCloned is_clone e (Some v))) where
    abbrev shared : HasKey (λ e. ((a, z) ≡ range_in e) × IsManyCloned is_clone e (Some v))
    shared = has_key _ held

    like : eq shared.of.value v ≡ true
    like = alike shared.of.value v shared.holds.1.1

    taken : (new : List (Entry V)) → IsListWithoutKey eq k es new → IsKeyTaken eq k (Some v) es new
    taken new cut = record { cut = cut; value = value_held shared.of shared.last shared.up v like }

    pub held_there : IsSome (start_at a es)
    held_there = present shared.of shared.last a z shared.holds.0

    pub end_taken : z ≤ℤ k → (y : ℤ) → y +ℤ pos 1 ≡ k → (new : List (Entry V)) → new ≡ with_end a y es → IsKeyTaken eq k (Some v) es new
    end_taken under y t new q =
        let ends = shared.holds.0 in
        let lo = ap (λ (t : ℤ × ℤ). t.0) ends in
        let hi = ap (λ (t : ℤ × ℤ). t.1) ends in
        let long = shared.holds.1.0 in
        let up = shared.up in
        taken new (end_cut shared.of shared.last a z ends (omega (arith, ints)) under (omega (arith, ints)) y t new q)

    module _ (over : k <ℤ z) (n : ℤ) (next : n ≡ k +ℤ pos 1) where
      pub next_absent : start_at n es ≡ None
      next_absent = none_at_next shared.of shared.last a z shared.holds.0 over n next

      pub start_taken : k ≤ℤ a → (new : List (Entry V)) → IsStartMoved a n es new → IsKeyTaken eq k (Some v) es new
      start_taken under new w = taken new (start_cut shared.of shared.last a z shared.holds.0 over n next under new w)

      pub inside_taken : a <ℤ k → (w : V) → is_clone v w → (y : ℤ) → y +ℤ pos 1 ≡ k → (mid new : List (Entry V)) → mid ≡ with_entry (entry n z w) es → new ≡ with_end a y mid → IsKeyTaken eq k (Some v) es new
      inside_taken l w copy y t mid new m q = taken new (between_cut shared.of shared.last a z shared.holds.0 over n next v w like (alike v w copy) l y t mid new m q)

  -- no entry contains the key
  pub no_key : holder_of k es ≡ None → at es k ≡ None
  no_key n = by_last (last_below (k +ℤ pos 1) es) refl n
    where
      by_last : (o : Option (Entry V)) → last_below (k +ℤ pos 1) es ≡ o → entry_reaching k o ≡ None → at es k ≡ None
      by_last None q n = at_before eq es k k c (above_from (k +ℤ pos 1) k high es (omega (arith, ints)) (no_last_from (k +ℤ pos 1) low high es s q)) (omega (arith, ints))
      by_last (Some e) q n = by_lt_z e.hi k
          (λ u. ended e (last_at (k +ℤ pos 1) low high e es s q) u)
          (λ u. let some : Some e ≡ None = ap (λ b. cond b None (Some e)) (sym (lt_false e.hi k u)) ∙ n in cc)

  -- a key of an entry has a value
  pub some_key : {P : Entry V → Type 0} → HasKey P → at es k ≡ None → ⊥
  some_key h n = let some : Some h.of.value ≡ None = sym (at_held h.of h.last h.up) ∙ n in cc

  -- a table with the key has at least one key
  pub key_fits : {P : Entry V → Type 0} → HasKey P → (n : ℕ) → IsTable eq low high n es → pos 1 ≤ℤ pos n
  key_fits h n t = omega (arith, ints, one_covered h.of h.last h.up, covered_fits eq k k es c, t.counted)

  -- without the key, the table has one key fewer
  pub key_cut : {P : Entry V → Type 0} → HasKey P → (n m : ℕ) (v : V) (new : List (Entry V)) → IsTable eq low high n es → pos m +ℤ pos 1 ≡ pos n → IsKeyTaken eq k (Some v) es new → IsKeyCut eq low high m k (Some v) es new
  key_cut h n m v new t less taken = record {
    table = cut_table eq laws k k (omega (arith, ints)) es new c taken.cut low high n m t (omega (arith, ints, one_covered h.of h.last h.up, less));
    content = cut_content eq laws k es new c taken.cut;
    value = taken.value;
  }
