-- The results of a walk down to a range, as an edit of the range requires them.
use Rattle.blaze_table.proofs.Words.{◌≡◌, ℤ, pos, ◌+ℤ◌, ◌-ℤ◌, ◌≤ℤ◌, ◌<ℤ◌, Bool, true, false, cond, List, [], ◌∷◌, Option, Some, None, refl, ◌∙◌, sym, subst, ap, arith, ℕ, inl, inr, last_or, option_map, int_eq, int_le, ◌&&◌, ◌||◌, IsSome, IfSome, IsSomeAnd, ints, by_lt_z, lt_true, lt_false, le_true, not_both, CountedEntries, RangeEntry, found_in, shown_found, RangesAscend, end_of, IsSeenIn, IsAboveCloned, GoesOnUnlike, IsClonedIf, IsWalk, StartsAscend, below, last_below, start_at, below_none, below_takes, IsCanonical, AreKeys, Entry, entry, at, entry_at, SameOption, ClonesAreAlike, IsInside, joined_start, IsUnjoined, IsJoinedEndAfter, IsJoinedEnd, IsLikeAbove, IsUnlikeAbove, GoesOnUnequal, HasEditLookups, IsWalkOf, after, IsTable, keys_apart, value-entry_at, by_after}
use Rattle.blaze_entries.specs.Overlap.{covered_keys}
use Rattle.blaze_table.specs.Planned.{Seen}
use Rattle.blaze_table.proofs.Cuts.CutEdits.{entry_held}
use Rattle.blaze_table.proofs.Cuts.Cutting.{covered_fits}
use Rattle.blaze_table.proofs.Cuts.Splits.{last_at}
use Rattle.blaze_table.proofs.Neighbours.Growing.{last_there}
use Rattle.blaze_table.proofs.Neighbours.Holders.{starts_over}
use Rattle.blaze_table.proofs.Paints.Inside.{inside_at}

-- a range is not inside an entry with an equal value if an entry with an unequal value extends above it
pub not_inside : {V : Type 0} (eq : V → V → Bool) (v : V) (l h : ℤ) → l ≤ℤ h → (es : List (Entry V)) → IsCanonical eq es → GoesOnUnequal (λ x. eq x v) h es → IsInside eq l h v es → ⊥
not_inside {V} eq v l h w es c g i =
    let here : Some g.over.entry.value ≡ at es h = ap (option_map (λ (e : Entry V). e.value)) (sym g.over.here) ∙ value-entry_at es h in
    not_both (eq g.over.entry.value v) (subst (λ o. SameOption eq o (Some v)) (sym here) (inside_at eq l h v es h c i w (omega (arith, ints)))) g.unequal

module _ {V : Type 0} (eq : V → V → Bool) where
  -- its ranges ascend
  pub ranges_of : (b high : ℤ) (es : List (Entry V)) → StartsAscend b high es → IsCanonical eq es → (low : ℤ) → AreKeys low high es → RangesAscend b high es
  ranges_of b high [] s c low k = tt
  ranges_of b high (e ∷ es) s c low k = (s.0, c.0, k.1, ranges_of (e.hi +ℤ pos 1) high es (starts_over eq (e.lo +ℤ pos 1) high e es c.1 s.2) c.2 low k.2)

  module _ (test : V → Bool) (h high : ℤ) where
    -- one more entry in front, which extends above the range and starts right above it or below
    end_long : (e : Entry V) (es : List (Entry V)) (x : Entry V) → after h (e ∷ es) ≡ x ∷ es → x.lo ≡ h +ℤ pos 1 → x.hi ≡ e.hi → x.value ≡ e.value → (b : Bool) → test e.value ≡ b → IsJoinedEnd test h (e ∷ es) (cond b e.hi h)
    end_long e es x p start finish same true t = inr (record { next = x; others = es; first = p; touches = start; ends = finish; like = ap test same ∙ t })
    end_long e es x p start finish same false t = inl (refl, subst (IsUnjoined test h) (sym p) (λ _. ap test same ∙ t))

    -- the end of the joined range, by the last entry that starts up to the key above it
    pub end_is : (b : ℤ) (es : List (Entry V)) → StartsAscend b high es → IsCanonical eq es → IsJoinedEnd test h es (end_of h (option_map (found_in test) (last_below (h +ℤ pos 2) es)))
    end_is b [] s c = inl (refl, tt)
    end_is b (e ∷ es) s c = by_after h e es
        (λ u p. rw (below_takes (h +ℤ pos 2) e es (omega (arith, ints, c.0))) (subst (IsJoinedEndAfter test h (after h (e ∷ es))) (short u (below (h +ℤ pos 2) es)) (subst (λ x. IsJoinedEndAfter test h x (end_of h (option_map (found_in test) (last_below (h +ℤ pos 2) es)))) (sym p) (end_is (e.lo +ℤ pos 1) es s.2 c.2))))
        (λ u v p. rw (last u (omega (arith, ints)), lt_true h e.hi u) (end_long e es (entry (h +ℤ pos 1) e.hi e.value) p refl refl refl (test e.value) refl))
        (λ u v p. by_lt_z e.lo (h +ℤ pos 2)
        (λ m. rw (last u m, lt_true h e.hi u) (end_long e es e p (omega (arith, ints)) refl refl (test e.value) refl))
        (λ m. rw (below_none (h +ℤ pos 2) e.lo high (e ∷ es) m (omega (arith, ints), s.1, s.2)) (inl (refl, subst (IsUnjoined test h) (sym p) (λ t. absurd (omega (arith, ints)))))))
      where
        short : e.hi ≤ℤ h → (xs : List (Entry V)) → end_of h (option_map (found_in test) (last_or None xs)) ≡ end_of h (option_map (found_in test) (last_or (Some e) xs))
        short u [] = rw (lt_false h e.hi u) refl
        short u (x ∷ xs) = refl

        last : h <ℤ e.hi → e.lo <ℤ (h +ℤ pos 2) → last_below (h +ℤ pos 2) (e ∷ es) ≡ Some e
        last u m = ap (last_or None) (below_takes (h +ℤ pos 2) e es m ∙ ap (λ x. e ∷ x) (below_none (h +ℤ pos 2) (e.hi +ℤ pos 1) high es (omega (arith, ints)) (starts_over eq (e.lo +ℤ pos 1) high e es c.1 s.2)))

module _ {V : Type 0} (eq : V → V → Bool) (l h low high : ℤ) (w : l ≤ℤ h) (es : List (Entry V)) (s : StartsAscend low high es) (c : IsCanonical eq es) where
  -- the last entry that starts up to a key contains the keys up to its end
  pub last_held : (b : ℤ) (e : Entry V) → last_below b es ≡ Some e → (j : ℤ) → (b -ℤ pos 1) ≤ℤ j → j ≤ℤ e.hi → entry_at es j ≡ Some e
  last_held b e q j d u =
      let i = last_at b low high e es s q in
      let under = i.starts in
      entry_held eq b high e es i c j (omega (arith, ints)) u

  start_last : (e : Entry V) → last_below l es ≡ Some e → start_at e.lo es ≡ Some e
  start_last e q = last_there l high e es (last_at l low high e es s q)

  -- the value of the last entry that starts below the range, by its start
  pub left_value : IfSome (last_below l es) (λ e. h <ℤ e.hi → option_map (λ (x : Entry V). x.value) (start_at e.lo es) ≡ Some e.value)
  left_value = by_last (last_below l es) refl
    where
      by_last : (o : Option (Entry V)) → last_below l es ≡ o → IfSome o (λ e. h <ℤ e.hi → option_map (λ (x : Entry V). x.value) (start_at e.lo es) ≡ Some e.value)
      by_last None q = tt
      by_last (Some e) q = λ u. ap (option_map (λ (x : Entry V). x.value)) (start_last e q)

  -- that entry exists
  pub left_there : {T : Type 0} (test : V → Bool) (rank : T → ℤ) (predecessor : Option (RangeEntry T Bool)) → option_map (shown_found rank) predecessor ≡ option_map (found_in test) (last_below l es) → IfSome predecessor (λ f. IsSome (start_at (rank f.start) es))
  left_there {T} test rank predecessor q = by_both predecessor (last_below l es) refl q
    where
      by_both : (predecessor : Option (RangeEntry T Bool)) (x : Option (Entry V)) → last_below l es ≡ x → option_map (shown_found rank) predecessor ≡ option_map (found_in test) x → IfSome predecessor (λ f. IsSome (start_at (rank f.start) es))
      by_both None x r q = tt
      by_both (Some f) None r q = cc
      by_both (Some f) (Some e) r q =
          let found : shown_found rank f ≡ found_in test e = cc in
          let start : rank f.start ≡ e.lo = ap (λ (t : ℤ × ℤ × Bool). t.0) found in
          subst (λ o. IsSome o) (sym (ap (λ k. start_at k es) start ∙ start_last e r)) refl

-- a clone of the value above the range is equal to it
like_cloned : {V : Type 0} (eq : V → V → Bool) (is_clone : V → V → Type 0) → ClonesAreAlike is_clone eq → (test : V → Bool) (h : ℤ) (x : Option (Entry V)) (o : Option V) → IfSome x (λ e. h <ℤ e.hi → test e.value ≡ false → IsSomeAnd o (is_clone e.value))
    → IfSome x (λ e. h <ℤ e.hi → test e.value ≡ false → IsSomeAnd o (λ u. eq e.value u ≡ true))
like_cloned eq is_clone k test h None o i = tt
like_cloned eq is_clone k test h (Some e) None i = i
like_cloned eq is_clone k test h (Some e) (Some v) i = λ u n. k e.value v (i u n)

module _ {V : Type 0} (eq : V → V → Bool) (l h low high : ℤ) (w : l ≤ℤ h) (len : ℕ) (es : List (Entry V)) (s : StartsAscend low high es) (t : IsTable eq low high len es) where
  -- the requirements of a walk
  pub has_ranges : RangesAscend low high es
  has_ranges = ranges_of eq low high es s t.canonical low t.are_keys

  pub has_keys : covered_keys l h es ≤ℤ pos len
  has_keys = omega (arith, ints, t.counted, covered_fits eq l h es t.canonical)

  -- the results of a walk
  module _ (test : V → Bool) where
    pub found_above : GoesOnUnlike test l h es → GoesOnUnequal test h es
    found_above g = by_last (last_below l es) refl g
      where
        by_last : (x : Option (Entry V)) → last_below l es ≡ x → IsSomeAnd x (λ e. (h <ℤ e.hi) × (test e.value ≡ false)) → GoesOnUnequal test h es
        by_last None q g = absurd g
        by_last (Some e) q g = record { over = record { entry = e; here = last_held eq l h low high w es s t.canonical l e q h (omega (arith, ints)) (omega (arith, ints, g.0)); above = g.0 }; unequal = g.1 }

    pub found_by_walk : (p : Seen) → IsSeenIn test l h es p → (n : ℕ) → pos n +ℤ covered_keys l h es ≡ pos len → (is_clone : V → V → Type 0) → ClonesAreAlike is_clone eq → (o : Option V) → IsAboveCloned is_clone test l h es o → IsWalkOf eq test l h es p n o
    found_by_walk p i n q is_clone k o a = record {
      plan = record { end = subst (IsJoinedEnd test h es) (sym i.end) (end_is eq test h high low es s t.canonical); tail = i.tail; at_start = i.at_start; predecessor = i.predecessor; removed_count = i.removed_count };
      keys_outside = omega (arith, ints, q, t.counted, keys_apart eq l h es w t.canonical);
      tail_value = like_cloned eq is_clone k test h (last_below l es) o a;
    }

    pub walked : {is_clone : V → V → Type 0} {wanted : Bool} {p : Seen} {n : ℕ} {o v : Option V} → ClonesAreAlike is_clone eq → IsWalk is_clone test wanted l h len es p n o v → IsWalkOf eq test l h es p n o
    walked {is_clone} {p = p} {n} {o} k i = found_by_walk p i.plan n i.keys_outside is_clone k o i.tail_value

-- the results are true after the lookups
pub found_still : {V : Type 0} {eq : V → V → Bool} {test : V → Bool} {l h : ℤ} {old mid : CountedEntries V} {p : Seen} {n : ℕ} {o : Option V} → HasEditLookups l h old mid → IsWalkOf eq test l h old.entries p n o → IsWalkOf eq test l h mid.entries p n o
found_still {V} {eq} {test} {l} {h} {old} {mid} {p} {n} {o} looked found = subst (λ (es : List (Entry V)). IsWalkOf eq test l h es p n o) (sym (ap (λ (s : CountedEntries V). s.entries) looked.alone)) found

-- if the entry is not joined with the range, its value is unequal
module _ {V : Type 0} (eq : V → V → Bool) (test : V → Bool) (l h z : ℤ) (w : l ≤ℤ h) (up : h ≤ℤ z) (o : Option V) where
  unjoined : (e : Entry V) → l ≤ℤ e.hi → None ≡ joined_start l (Some (found_in test e)) → test e.value ≡ false
  unjoined e u n =
      elim (test e.value) as (λ b. None ≡ cond (b && (int_le l e.hi || int_eq l (e.hi +ℤ pos 1))) (Some e.lo) None → b ≡ false) [
        | true ↦ λ n. absurd (some_none (subst (λ b. None ≡ cond (b || int_eq l (e.hi +ℤ pos 1)) (Some e.lo) None) (le_true l e.hi u) n))
        | false ↦ λ n. refl
      ] n
    where
      some_none : None ≡ Some e.lo → ⊥
      some_none q = cc

  pub like_above : (es : List (Entry V)) → IsUnlikeAbove eq test l h es o → None ≡ joined_start l (option_map (found_in test) (last_below l es)) → IsLikeAbove eq l z es o
  like_above es i n = by_last (last_below l es) i n
    where
      by_last : (x : Option (Entry V)) → IfSome x (λ e. h <ℤ e.hi → test e.value ≡ false → IsSomeAnd o (λ u. eq e.value u ≡ true)) → None ≡ joined_start l (option_map (found_in test) x)
          → IfSome x (λ e. z <ℤ e.hi → IsSomeAnd o (λ u. eq e.value u ≡ true))
      by_last None i n = tt
      by_last (Some e) i n = λ u. i (omega (arith, ints)) (unjoined e (omega (arith, ints)) n)
