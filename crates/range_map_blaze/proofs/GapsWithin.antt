-- The gaps of entries within a range, as a walk meets them, are the keys of the range that no entry has.
use Rattle.range_map_blaze.proofs.Words.{◌≡◌, ℤ, pos, ◌+ℤ◌, ◌-ℤ◌, ◌≤ℤ◌, ◌<ℤ◌, Bool, cond, List, [], ◌∷◌, ◌++◌, Option, Some, None, refl, ◌∙◌, sym, ap, subst, arith, IsEquivalence, int_max, int_min, int_lt, ints, by_lt_z, lt_true, lt_false, le_true, le_false, up_to, same_itself, IsCanonical, AreKeys, IsRangeMap, left_alone, left_with_right, IsChosen, value_if_none, ending_from, overlapping, Entry, entry, at, SameOption, unit_eq, before, after, before_none, IsAbove, above_rest, at_in, at_under, at_over, by_place, canonical, one_per_run, after_all, by_before, canonical_after, canonical_before, above_after, unit_laws, gap_before, gaps, no_gap, gaps_complement, one_range, within, gaps_within, chosen}
use Rattle.range_map_blaze.proofs.JoinedKeys.{below_all, above_all}
use Rattle.range_map_blaze.proofs.Paints.Following.{IsOnward, EndsFrom, whole_first, within_next, within_over, content_within}

-- ---- a walk

max_is : (l k : ℤ) → gap_before l (int_max l k) ≡ gap_before l k
max_is l k = by_lt_z l k
    (λ u. ap (gap_before l) (over u))
    (λ u. no_gap l (int_max l k) (under u) ∙ sym (no_gap l k u))
  where
    over : l <ℤ k → int_max l k ≡ k
    over u = grind (arith, ints)

    under : k ≤ℤ l → int_max l k ≤ℤ l
    under u = grind (arith, ints)

module _ {V : Type 0} where
  pub up_to_takes : (h : ℤ) (e : Entry V) (es : List (Entry V)) → e.lo ≤ℤ h → up_to h (e ∷ es) ≡ e ∷ up_to h es
  up_to_takes h e es u = ap (λ b. cond b (e ∷ up_to h es) (up_to h es)) (le_true e.lo h u)

  pub up_to_skips : (h : ℤ) (e : Entry V) (es : List (Entry V)) → h <ℤ e.lo → up_to h (e ∷ es) ≡ up_to h es
  up_to_skips h e es u = ap (λ b. cond b (e ∷ up_to h es) (up_to h es)) (le_false e.lo h u)

module _ {V : Type 0} (eq : V → V → Bool) where
  pub up_to_none : (h : ℤ) (es : List (Entry V)) → IsCanonical eq es → IsAbove h es → up_to h es ≡ []
  up_to_none h [] c a = refl
  up_to_none h (e ∷ es) c a = up_to_skips h e es (omega (arith, ints)) ∙ up_to_none h es c.2 (above_rest eq h e es (omega (arith, ints, c.0)) c)

  ends_above : (b : ℤ) (es : List (Entry V)) → IsCanonical eq es → IsAbove b es → EndsFrom (b +ℤ pos 1) es
  ends_above b [] c a = tt
  ends_above b (e ∷ es) c a = omega (arith, ints, c.0)

  -- the gaps among the entries that start up to h are those between their parts within the range
  gaps_are : (l h : ℤ) (es : List (Entry V)) → IsOnward eq l es → l ≤ℤ h → gaps_within l h (up_to h es) ≡ gaps l h (within l h es)
  gaps_are l h [] o w = refl
  gaps_are l h (e ∷ es) o w = by_lt_z h e.lo over (here (λ p q. gaps_are (e.hi +ℤ pos 1) h es p q))
    where
      above : (b : ℤ) → b ≤ℤ e.hi → IsAbove b es
      above b u = above_rest eq b e es u o.canonical

      over : h <ℤ e.lo → gaps_within l h (up_to h (e ∷ es)) ≡ gaps l h (within l h (e ∷ es))
      over u =
          ap (gaps_within l h) (up_to_skips h e es u ∙ up_to_none h es o.canonical.2 (above h (omega (arith, ints, o.canonical.0))))
          ∙ sym (ap (gaps l h) (within_over eq l h e es o w u))

      Again : Type 0
      Again = IsOnward eq (e.hi +ℤ pos 1) es → (e.hi +ℤ pos 1) ≤ℤ h → gaps_within (e.hi +ℤ pos 1) h (up_to h es) ≡ gaps (e.hi +ℤ pos 1) h (within (e.hi +ℤ pos 1) h es)

      later : Again → e.hi <ℤ h → cond (int_lt e.hi h) (gaps_within (e.hi +ℤ pos 1) h (up_to h es)) [] ≡ gaps (int_min h e.hi +ℤ pos 1) h (within l h es)
      later again u =
          let below : (e.hi +ℤ pos 1) ≤ℤ h = omega (arith, ints) in
          let onward : IsOnward eq (e.hi +ℤ pos 1) es = record { canonical = o.canonical.2; ends = ends_above e.hi es o.canonical.2 (above e.hi (omega (arith, ints))) } in
          let same : within (e.hi +ℤ pos 1) h es ≡ within l h es = ap (before (h +ℤ pos 1))
          (after_all eq (e.hi +ℤ pos 1 -ℤ pos 1) es o.canonical.2 (above (e.hi +ℤ pos 1 -ℤ pos 1) (omega (arith, ints)))
          ∙ sym (after_all eq (l -ℤ pos 1) es o.canonical.2 (above (l -ℤ pos 1) (omega (arith, ints, o.ends))))) in
          ap (λ b. cond b (gaps_within (e.hi +ℤ pos 1) h (up_to h es)) []) (lt_true e.hi h u)
          ∙ again onward below
          ∙ ap (gaps (e.hi +ℤ pos 1) h) same
          ∙ ap (λ z. gaps (z +ℤ pos 1) h (within l h es)) (sym (lower u))
        where
          lower : e.hi <ℤ h → int_min h e.hi ≡ e.hi
          lower v = grind (arith, ints)

      nothing : h ≤ℤ e.hi → cond (int_lt e.hi h) (gaps_within (e.hi +ℤ pos 1) h (up_to h es)) [] ≡ gaps (int_min h e.hi +ℤ pos 1) h (within l h es)
      nothing u =
          let all : after (l -ℤ pos 1) es ≡ es = after_all eq (l -ℤ pos 1) es o.canonical.2 (above (l -ℤ pos 1) (omega (arith, ints, o.ends))) in
          let none : within l h es ≡ [] = ap (before (h +ℤ pos 1)) all ∙ before_none eq (h +ℤ pos 1) es o.canonical.2 (above (h +ℤ pos 1 -ℤ pos 1) (omega (arith, ints))) in
          ap (λ b. cond b (gaps_within (e.hi +ℤ pos 1) h (up_to h es)) []) (lt_false e.hi h u)
          ∙ sym (no_gap (h +ℤ pos 1) (h +ℤ pos 1) (omega (arith, ints)))
          ∙ sym (ap (gaps (h +ℤ pos 1) h) none)
          ∙ ap (λ z. gaps (z +ℤ pos 1) h (within l h es)) (sym (lower u))
        where
          lower : h ≤ℤ e.hi → int_min h e.hi ≡ h
          lower v = grind (arith, ints)

      here : Again → e.lo ≤ℤ h → gaps_within l h (up_to h (e ∷ es)) ≡ gaps l h (within l h (e ∷ es))
      here again u =
          ap (gaps_within l h) (up_to_takes h e es u)
          ∙ ap (λ G. gap_before l e.lo ++ G) (by_lt_z e.hi h (later again) nothing)
          ∙ ap (λ G. G ++ gaps (int_min h e.hi +ℤ pos 1) h (within l h es)) (sym (max_is l e.lo))
          ∙ sym (ap (gaps l h) (within_next eq l h e es o w u))

  -- what lies above l and is cut off above h lies among the keys from l up to h
  pub keys_between : (l h : ℤ) (es : List (Entry V)) → IsCanonical eq es → IsAbove (l -ℤ pos 1) es → AreKeys l h (before (h +ℤ pos 1) es)
  keys_between l h [] c a = tt
  keys_between l h (e ∷ es) c a = by_before (h +ℤ pos 1) e es
      (λ u p. rw p (omega (arith, ints), omega (arith, ints), keys_between l h es c.2 (above_rest eq (l -ℤ pos 1) e es (omega (arith, ints, c.0)) c)))
      (λ u v p. rw p (omega (arith, ints), omega (arith, ints), tt))
      (λ u v p. rw p tt)

-- ---- what they are

keys_wider : {V : Type 0} (low high l h : ℤ) (es : List (Entry V)) → low ≤ℤ l → h ≤ℤ high → AreKeys l h es → AreKeys low high es
keys_wider low high l h [] u v k = tt
keys_wider low high l h (e ∷ es) u v k = (omega (arith, ints, k.0), omega (arith, ints, k.1), keys_wider low high l h es u v k.2)

alone_is : {V : Type 0} (x : Option V) → value_if_none {W = Unit {0}} tt x ≡ left_alone {A = Unit {0}} (Some tt) x
alone_is None = refl
alone_is (Some v) = refl

alone_none : {A V : Type 0} (x : Option V) → left_alone {A = A} None x ≡ None
alone_none None = refl
alone_none (Some v) = refl

module _ {V : Type 0} (low high l h : ℤ) (es : List (Entry V)) where
  off : (new : List (Entry (Unit {0}))) (k : ℤ) → at new k ≡ None → at (one_range l h) k ≡ None → SameOption unit_eq (at new k) (left_alone (at (one_range l h) k) (at es k))
  off new k p q =
      subst (λ x. SameOption unit_eq (at new k) (left_alone x (at es k))) (sym q)
      (subst (SameOption unit_eq (at new k)) (p ∙ sym (alone_none (at es k))) (same_itself unit_eq unit_laws (at new k)))

  module _ (eq : V → V → Bool) (laws : IsEquivalence eq) (r : IsRangeMap eq low high es) where
    gaps_chosen : l ≤ℤ h → low ≤ℤ l → h ≤ℤ high → IsChosen unit_eq low high left_alone (one_range l h) es (gaps_within l h (overlapping l h es))
    gaps_chosen w a b =
        let c = canonical eq laws es r.runs in
        let d = canonical_after eq (l -ℤ pos 1) es c in
        let whole = whole_first eq l h es c in
        let is = gaps_are eq l h (ending_from l es) whole.onward w ∙ ap (gaps l h) whole.same in
        let made = gaps_complement eq laws l h (within l h es) (record {
          runs = one_per_run eq laws (within l h es) (canonical_before eq (h +ℤ pos 1) (after (l -ℤ pos 1) es) d);
          keys = keys_between eq l h (after (l -ℤ pos 1) es) d (above_after (l -ℤ pos 1) es);
        }) in
        let new = gaps l h (within l h es) in
        let one : Entry (Unit {0}) = entry l h tt in
        rw is (chosen (record { runs = made.range_map.runs; keys = keys_wider low high l h new a b made.range_map.keys }) (λ k. by_place one k
        (λ i j.
        let held = at_in one [] k i j in
        let at_es = content_within eq laws low high l h es k c d ∙ ap (left_with_right (at es k)) held in
        subst (SameOption unit_eq (at new k)) (ap (value_if_none tt) at_es ∙ alone_is (at es k) ∙ ap (λ x. left_alone x (at es k)) (sym held)) (made.content k i j))
        (λ i. off new k (below_all l h new k made.range_map.keys i) (at_under one [] k i))
        (λ i. off new k (above_all l h new k made.range_map.keys i) (at_over one [] k i))))

    -- the gaps among the entries that share a key with the range
    pub gaps_made : l ≤ℤ h → low ≤ℤ l → h ≤ℤ high → (os : List (Entry V)) → os ≡ overlapping l h es → IsChosen unit_eq low high left_alone (one_range l h) es (gaps_within l h os)
    gaps_made w a b os is = rw is (gaps_chosen w a b)
