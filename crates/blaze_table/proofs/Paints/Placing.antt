-- The inserts of an edit, over plain lists.
use Rattle.blaze_table.proofs.Words.{◌≡◌, ℤ, pos, ◌+ℤ◌, ◌-ℤ◌, ◌≤ℤ◌, ◌<ℤ◌, Bool, true, false, cond, List, [], ◌∷◌, Option, Some, None, refl, ◌∙◌, sym, subst, ap, arith, ⊎_elim, IsSome, IfSome, IsSomeAnd, Contains, last_or, option_map, int_eq, IsEquivalence, ints, by_lt_z, shown_ends, below, from, last_below, start_at, with_entry, without, with_end_value, IsStartMoved, IsFrontReplaced, Plan, RangeEntry, by_order, one_value, below_takes, below_skips, Entry, entry, SameEntries, IsCanonical, HasRoom, IsLikeTail, IsEditPlan, IsTailSplit, IsTail, IsEntryAcross, AreOtherEntriesKept, IsEntrySet, after, IsSameAbove, IsAbove, IsAbove-from_apart, in_from, later_in, entries_themselves}
use Rattle.blaze_table.proofs.Paints.Clearing.{below_below}
use Rattle.blaze_entries.proofs.EditLists.{below_with, from_with_under, from_with, start_with, start_beside, without_with, start_beside_without, below_without, from_without, below_replaced, from_replaced, start_replaced, start_beside_replaced, start_below}

module _ {V : Type 0} where
  is_there : {a : Entry V} (o : Option (Entry V)) → o ≡ Some a → IsSome o
  is_there o p = subst (λ x. IsSome x) (sym p) refl

  -- two starts, one with an entry and one with none
  pub starts_differ : (k s : ℤ) (e : Entry V) (es : List (Entry V)) → start_at s es ≡ Some e → start_at k es ≡ None → s ≡ k → ⊥
  starts_differ k s e es p n q = some_none (start_at k es) (ap (λ x. start_at x es) (sym q) ∙ p) n
    where
      some_none : (o : Option (Entry V)) → o ≡ Some e → o ≡ None → ⊥
      some_none o a b = cc

  -- the entries that start up to a key are the same
  module _ (k : ℤ) (old new : List (Entry V)) (same : below (k +ℤ pos 1) new ≡ below (k +ℤ pos 1) old) where
    pub same_below : below k new ≡ below k old
    same_below = sym (below_below k (k +ℤ pos 1) new (omega (arith, ints))) ∙ ap (below k) same ∙ below_below k (k +ℤ pos 1) old (omega (arith, ints))

    pub same_start : start_at k new ≡ start_at k old
    same_start = sym (start_below k new) ∙ ap (start_at k) same ∙ start_below k old

  pub put_there : (p : Entry V) (old new : List (Entry V)) → new ≡ with_entry p old → IsSome (start_at p.lo new)
  put_there p old new q = is_there (start_at p.lo new) (ap (start_at p.lo) q ∙ start_with p old)

  pub put_back : (p : Entry V) (old c new : List (Entry V)) → start_at p.lo old ≡ None → c ≡ with_entry p old → new ≡ without p.lo c → new ≡ old
  put_back p old c new n q r = r ∙ ap (without p.lo) q ∙ without_with p old n

module _ {V : Type 0} (eq : V → V → Bool) where
  -- each start is above the bound of the list
  over_later : (b l : ℤ) (g : Entry V) (es : List (Entry V)) → IsAbove b es → IsCanonical eq es → start_at l es ≡ Some g → b <ℤ l
  over_later b l g [] a c p = absurd (none_some p)
    where
      none_some : None ≡ Some g → ⊥
      none_some p = cc
  over_later b l g (f ∷ fs) a c p = by_order l f.lo
      (λ o q r. let u = over_later f.hi l g fs (IsAbove-from_apart eq f fs c.1) c.2 (later r) in absurd (omega (arith, ints, c.0)))
      (λ o q r. omega (arith, ints, a))
      (λ o q r. let u = over_later f.hi l g fs (IsAbove-from_apart eq f fs c.1) c.2 (later r) in omega (arith, ints, a, c.0))
    where
      later : int_eq l f.lo ≡ false → start_at l fs ≡ Some g
      later r = sym (ap (λ t. cond t (Some f) (start_at l fs)) r) ∙ p

  -- an entry ends below the start of another that starts above its own start
  pub ends_before : (s l : ℤ) (e g : Entry V) (es : List (Entry V)) → IsCanonical eq es → start_at s es ≡ Some e → start_at l es ≡ Some g → s <ℤ l → e.hi <ℤ l
  ends_before s l e g [] c p q u = absurd (none_some p)
    where
      none_some : None ≡ Some e → ⊥
      none_some p = cc
  ends_before s l e g (f ∷ fs) c p q u = by_order s f.lo
      (λ o a r. let w = over_later f.hi s e fs (IsAbove-from_apart eq f fs c.1) c.2 (later s e r p) in absurd (omega (arith, ints, c.0)))
      (λ o a r.
      let same : f ≡ e = first r in
      let w = over_later f.hi l g fs (IsAbove-from_apart eq f fs c.1) c.2 (later l g (other (omega (arith, ints))) q) in
      subst (λ (x : Entry V). x.hi <ℤ l) same w)
      (λ o a r. ends_before s l e g fs c.2 (later s e r p) (later l g (other (omega (arith, ints))) q) u)
    where
      later : (k : ℤ) (x : Entry V) → int_eq k f.lo ≡ false → start_at k (f ∷ fs) ≡ Some x → start_at k fs ≡ Some x
      later k x r p = sym (ap (λ t. cond t (Some f) (start_at k fs)) r) ∙ p

      other : f.lo <ℤ l → int_eq l f.lo ≡ false
      other h = by_order l f.lo (λ o q r. r) (λ o q r. absurd (omega (arith, ints))) (λ o q r. r)

      first : int_eq s f.lo ≡ true → f ≡ e
      first r = one_value (start_at s (f ∷ fs)) (ap (λ t. cond t (Some f) (start_at s fs)) r) p

  none_under : (b l : ℤ) (es : List (Entry V)) → l ≤ℤ (b +ℤ pos 1) → IsAbove b es → IsCanonical eq es → below l es ≡ []
  none_under b l [] w a c = refl
  none_under b l (g ∷ gs) w a c = below_skips l g gs (omega (arith, ints, a)) ∙ none_under g.hi l gs (omega (arith, ints, a, c.0)) (IsAbove-from_apart eq g gs c.1) c.2

  -- an entry that starts below a key and reaches it is the last that starts below it
  pub around_last : (s l : ℤ) (e : Entry V) (es : List (Entry V)) → IsCanonical eq es → start_at s es ≡ Some e → s <ℤ l → l ≤ℤ e.hi → last_below l es ≡ Some e
  around_last s l e [] c p u w = cc
  around_last s l e (f ∷ fs) c p u w = by_order s f.lo
      (λ o q r. let over = over_later f.hi s e fs (IsAbove-from_apart eq f fs c.1) c.2 (later r) in absurd (omega (arith, ints, c.0)))
      (λ o q r.
      let same : f ≡ e = one_value (start_at s (f ∷ fs)) (ap (λ t. cond t (Some f) (start_at s fs)) r) p in
      let reach : l ≤ℤ f.hi = subst (λ (x : Entry V). l ≤ℤ x.hi) (sym same) w in
      ap (last_or None) (below_takes l f fs (omega (arith, ints, c.0)) ∙ ap (λ xs. f ∷ xs) (none_under f.hi l fs (omega (arith, ints)) (IsAbove-from_apart eq f fs c.1) c.2)) ∙ ap (λ x. Some x) same)
      (λ o q r. ap (last_or None) (below_takes l f fs (omega (arith, ints))) ∙ last_behind (below l fs) (around_last s l e fs c.2 (later r) u w))
    where
      later : int_eq s f.lo ≡ false → start_at s fs ≡ Some e
      later r = sym (ap (λ t. cond t (Some f) (start_at s fs)) r) ∙ p

      last_behind : (xs : List (Entry V)) → last_or None xs ≡ Some e → last_or None (f ∷ xs) ≡ Some e
      last_behind [] q = cc
      last_behind (x ∷ xs) q = q

module _ {V : Type 0} (eq : V → V → Bool) (laws : IsEquivalence eq) where
  -- The part of an entry from n on starts at n. The entries that start up to k and those that start from n on are
  -- unchanged.
  record IsMovedOver (k s n : ℤ) (old new : List (Entry V)) : Type 0 where
    of : Entry V
    found : start_at s old ≡ Some of
    same : below (k +ℤ pos 1) new ≡ below (k +ℤ pos 1) old
    over : from n new ≡ entry n of.hi of.value ∷ from n old

  moved_over : (k s n : ℤ) (old new : List (Entry V)) → k <ℤ s → s <ℤ n → start_at n old ≡ None → IsStartMoved s n old new → IsMovedOver k s n old new
  moved_over k s n old new above u none w =
      let p = entry n w.of.hi w.of.value in
      record {
        of = w.of;
        found = w.found;
        same = ap (below (k +ℤ pos 1)) w.moved ∙ below_with (k +ℤ pos 1) p (without s old) (omega (arith, ints)) ∙ below_without (k +ℤ pos 1) s old (omega (arith, ints));
        over = ap (from n) w.moved ∙ from_with p (without s old) (start_beside_without n s old (λ t. absurd (omega (arith, ints))) ∙ none) ∙ ap (λ t. p ∷ t) (from_without n s old u);
      }

  -- the part above z, after it became a separate entry
  rest_like : (z s t : ℤ) (old above : List (Entry V)) (r : IsEntryAcross z old s t) (v : V) → eq r.of.value v ≡ true → above ≡ entry (z +ℤ pos 1) t v ∷ from (z +ℤ pos 1) old → IsSameAbove eq z old above
  rest_like z s t old above r v i made = record {
    alike = subst (λ x. SameEntries eq (after z old) x) (sym made) (subst (λ x. SameEntries eq x (entry (z +ℤ pos 1) t v ∷ from (z +ℤ pos 1) old)) (sym r.tail) (refl, r.ends, i, entries_themselves eq laws (from (z +ℤ pos 1) old)));
    kept = λ e c u. subst (λ es. Contains es e) (sym made) (later_in (entry (z +ℤ pos 1) t v) (from (z +ℤ pos 1) old) e (in_from (z +ℤ pos 1) old e c (omega (arith, ints))));
  }

  none_like : (z : ℤ) (old above : List (Entry V)) → after z old ≡ from (z +ℤ pos 1) old → above ≡ from (z +ℤ pos 1) old → IsSameAbove eq z old above
  none_like z old above q r = record {
    alike = subst (λ x. SameEntries eq x above) (r ∙ sym q) (entries_themselves eq laws above);
    kept = λ e c u. subst (λ es. Contains es e) (sym r) (in_from (z +ℤ pos 1) old e c (omega (arith, ints)));
  }

  -- the entries that start up to k are unchanged, and the part above z starts above z
  module _ (l k z : ℤ) (w : k ≤ℤ z) (old c : List (Entry V)) (over : from (z +ℤ pos 1) c ≡ from (z +ℤ pos 1) old) where
    pub rest_put : (tail : Option (ℤ × ℤ)) (above : Option V) (new : List (Entry V)) → IsTail z old tail → HasRoom z c tail → IfSome tail (λ r. (start_at r.0 c ≡ start_at r.0 old) × (l ≤ℤ r.0 → k <ℤ r.0))
        → IsLikeTail eq l old tail above → IsTailSplit l z tail above c new → (below (k +ℤ pos 1) new ≡ below (k +ℤ pos 1) c) × IsSameAbove eq z old (from (z +ℤ pos 1) new)
    rest_put None above new r room u like q = (ap (below (k +ℤ pos 1)) q, none_like z old (from (z +ℤ pos 1) new) r (ap (from (z +ℤ pos 1)) q ∙ over))
    rest_put (Some ends) above new r room u like q = ⊎_elim (λ p. put_in above (like p.0 r.of r.found) p.1) (λ p. moved_count p.0 p.1) q
      where
        put_in : (o : Option V) → IsSomeAnd o (λ v. eq r.of.value v ≡ true) → IsSomeAnd o (λ v. new ≡ with_entry (entry (z +ℤ pos 1) ends.1 v) c)
            → (below (k +ℤ pos 1) new ≡ below (k +ℤ pos 1) c) × IsSameAbove eq z old (from (z +ℤ pos 1) new)
        put_in None i n = absurd n
        put_in (Some v) i n =
            let p = entry (z +ℤ pos 1) ends.1 v in (
              ap (below (k +ℤ pos 1)) n ∙ below_with (k +ℤ pos 1) p c (omega (arith, ints)),
              rest_like z ends.0 ends.1 old (from (z +ℤ pos 1) new) r v i (ap (from (z +ℤ pos 1)) n ∙ from_with p c room.2 ∙ ap (λ x. p ∷ x) over),
            )

        moved_count : l ≤ℤ ends.0 → IsStartMoved ends.0 (z +ℤ pos 1) c new → (below (k +ℤ pos 1) new ≡ below (k +ℤ pos 1) c) × IsSameAbove eq z old (from (z +ℤ pos 1) new)
        moved_count a m =
            let up = r.starts in
            let t = moved_over k ends.0 (z +ℤ pos 1) c new (u.1 a) (omega (arith, ints)) room.2 m in
            let one : t.of ≡ r.of = one_value (start_at ends.0 old) (sym u.0 ∙ t.found) r.found in (
              t.same,
              rest_like z ends.0 ends.1 old (from (z +ℤ pos 1) new) r r.of.value (laws.refl r.of.value)
                  (t.over ∙ ap (λ (x : Entry V). entry (z +ℤ pos 1) x.hi x.value ∷ from (z +ℤ pos 1) c) one ∙ ap (λ x. entry (z +ℤ pos 1) x r.of.value ∷ from (z +ℤ pos 1) c) r.ends ∙ ap (λ x. entry (z +ℤ pos 1) ends.1 r.of.value ∷ x) over),
            )

  pub has_room : (z : ℤ) (es : List (Entry V)) (tail : Option (ℤ × ℤ)) → IsTail z es tail → HasRoom z es tail
  has_room z es None r = tt
  has_room z es (Some e) r = (r.over, is_there (start_at e.0 es) r.found, r.none)

  -- the entry at k and those below it remain if an entry that starts above k is moved
  pub rest_kept : (l k z : ℤ) → k ≤ℤ z → (old new : List (Entry V)) (tail : Option (ℤ × ℤ)) (above : Option V) → IsTail z old tail → IfSome tail (λ r. l ≤ℤ r.0 → k <ℤ r.0) → IsLikeTail eq l old tail above → IsTailSplit l z tail above old new → AreOtherEntriesKept eq k z old new
  rest_kept l k z w old new tail above r u like q =
      let t = rest_put l k z w old old refl tail above new r (has_room z old tail r) (beside tail u) like q in
      record { below = t.0; like = t.1 }
    where
      beside : (tail : Option (ℤ × ℤ)) → IfSome tail (λ r. l ≤ℤ r.0 → k <ℤ r.0) → IfSome tail (λ r. (start_at r.0 old ≡ start_at r.0 old) × (l ≤ℤ r.0 → k <ℤ r.0))
      beside None u = tt
      beside (Some r) u = (refl, u)

  pub rest_over : (f z : ℤ) → f ≤ℤ z → (old new : List (Entry V)) (tail : Option (ℤ × ℤ)) → IsTail z old tail → IfSome tail (λ r. f <ℤ r.0) → IsTailSplit f z tail None old new → AreOtherEntriesKept eq f z old new
  rest_over f z w old new None r u q = rest_kept f f z w old new None None r tt tt q
  rest_over f z w old new (Some e) r u q = rest_kept f f z w old new (Some e) None r (λ v. u) (λ v x p. absurd (omega (arith, ints, u, v))) q

  pub none_above : {T X : Type 0} (rank : T → ℤ) (l : ℤ) (tail : Option (RangeEntry T X)) (above : Option V) → IfSome (option_map (shown_ends rank) tail) (λ r. l <ℤ r.0) → IfSome tail (λ r. rank r.start <ℤ l → IsSome above)
  none_above rank l None above u = tt
  none_above rank l (Some e) above u = λ v. absurd (omega (arith, ints, u, v))

  -- the requirements of an edit
  module _ {T : Type 0} (rank : T → ℤ) (l : ℤ) (es : List (Entry V)) (plan : Plan T) (above : Option V) (c : IsCanonical eq es) (p : IsEditPlan rank eq l es plan above) where
    abbrev z : ℤ
    z = rank plan.end

    abbrev tail : Option (ℤ × ℤ)
    tail = option_map (shown_ends rank) plan.tail

    -- the entry that keeps its keys above the range is the last below l, if it starts below l
    pub like_rest : IsLikeTail eq l es tail above
    like_rest = by_rest tail p.tail
      where
        by_rest : (tail : Option (ℤ × ℤ)) → IsTail z es tail → IsLikeTail eq l es tail above
        by_rest None r = tt
        by_rest (Some t) r = λ u e q.
            let same : r.of ≡ e = one_value (start_at t.0 es) r.found q in
            let end = r.ends in
            let over = r.over in
            let order = p.order in
            let reach : z <ℤ e.hi = subst (λ (x : Entry V). z <ℤ x.hi) same (omega (arith, ints)) in
            subst (λ o. IfSome o (λ x. z <ℤ x.hi → IsSomeAnd above (λ v. eq x.value v ≡ true))) (around_last eq t.0 l e es c q u (omega (arith, ints))) p.tail_value reach

    -- so `above` is `Some`
    pub above_there : IfSome plan.tail (λ r. rank r.start <ℤ l → IsSome above)
    above_there = by_rest plan.tail p.tail like_rest
      where
        some_and : (P : V → Type 0) (o : Option V) → IsSomeAnd o P → IsSome o
        some_and P None i = absurd i
        some_and P (Some v) i = refl

        by_rest : {X : Type 0} (o : Option (RangeEntry T X)) → IsTail z es (option_map (shown_ends rank) o) → IsLikeTail eq l es (option_map (shown_ends rank) o) above → IfSome o (λ r. rank r.start <ℤ l → IsSome above)
        by_rest None r i = tt
        by_rest (Some t) r i = λ u. some_and _ above (i u r.of r.found)

    -- the entries that start below l remain in any case
    pub rest_started : (new : List (Entry V)) → IsTailSplit l z tail above es new → AreOtherEntriesKept eq (l -ℤ pos 1) z es new
    rest_started new q = let order = p.order in rest_kept l (l -ℤ pos 1) z (omega (arith, ints)) es new tail above p.tail (under tail) like_rest q
      where
        under : (tail : Option (ℤ × ℤ)) → IfSome tail (λ r. l ≤ℤ r.0 → (l -ℤ pos 1) <ℤ r.0)
        under None = tt
        under (Some r) = λ u. omega (arith, ints, u)

  -- an entry is inserted where none starts
  module _ (p : Entry V) (order : p.lo ≤ℤ p.hi) (old c : List (Entry V)) (none : start_at p.lo old ≡ None) (put : c ≡ with_entry p old) where
    other : (tail : ℤ × ℤ) → IsEntryAcross p.hi old tail.0 tail.1 → tail.0 ≡ p.lo → ⊥
    other tail r = starts_differ p.lo tail.0 r.of old r.found none

    same_put : (tail : ℤ × ℤ) → IsEntryAcross p.hi old tail.0 tail.1 → start_at tail.0 c ≡ start_at tail.0 old
    same_put tail r = ap (start_at tail.0) put ∙ start_beside tail.0 p old (other tail r)

    pub new_room : (tail : Option (ℤ × ℤ)) → IsTail p.hi old tail → HasRoom p.hi c tail
    new_room None r = tt
    new_room (Some e) r = (r.over, is_there (start_at e.0 c) (same_put e r ∙ r.found), ap (start_at (p.hi +ℤ pos 1)) put ∙ start_beside (p.hi +ℤ pos 1) p old (λ t. omega (arith, ints)) ∙ r.none)

    pub new_started : (tail : Option (ℤ × ℤ)) (above : Option V) (new : List (Entry V)) → IsTail p.hi old tail → IsLikeTail eq p.lo old tail above → IsTailSplit p.lo p.hi tail above c new → IsEntrySet eq p old new
    new_started tail above new r like q =
        let t = rest_put p.lo p.lo p.hi order old c (ap (from (p.hi +ℤ pos 1)) put ∙ from_with_under (p.hi +ℤ pos 1) p old (omega (arith, ints))) tail above new r (new_room tail r) (beside tail r) like q in
        record {
          below = same_below p.lo c new t.0 ∙ ap (below p.lo) put ∙ below_with p.lo p old (omega (arith, ints));
          here = same_start p.lo c new t.0 ∙ ap (start_at p.lo) put ∙ start_with p old;
          like = t.1;
        }
      where
        beside : (tail : Option (ℤ × ℤ)) → IsTail p.hi old tail → IfSome tail (λ r. (start_at r.0 c ≡ start_at r.0 old) × (p.lo ≤ℤ r.0 → p.lo <ℤ r.0))
        beside None r = tt
        beside (Some e) r = (same_put e r, λ u. by_lt_z p.lo e.0 (λ h. h) (λ h. absurd (other e r (omega (arith, ints)))))

  -- an entry replaces the one that starts at l
  module _ (l z : ℤ) (v : V) (order : l ≤ℤ z) (old : List (Entry V)) (present : IsSome (start_at l old)) where
    pub over_kept : (c new : List (Entry V)) → AreOtherEntriesKept eq l z old c → new ≡ with_end_value l z v c → IsEntrySet eq (entry l z v) old new
    over_kept c new w q = record {
      below = ap (below l) q ∙ below_replaced l l z v c (omega (arith, ints)) ∙ same_below l old c w.below;
      here = ap (start_at l) q ∙ start_replaced l z v c (subst (λ x. IsSome x) (sym (same_start l old c w.below)) present);
      like = subst (λ (x : List (Entry V)). IsSameAbove eq z old x) (sym (ap (from (z +ℤ pos 1)) q ∙ from_replaced (z +ℤ pos 1) l z v c (omega (arith, ints)))) w.like;
    }

    pub over_front : (s t : ℤ) (new : List (Entry V)) → IsCanonical eq old → s ≤ℤ l → IsEntryAcross z old s t → IsFrontReplaced l z v (z +ℤ pos 1) old new → IsEntrySet eq (entry l z v) old new
    over_front s t new c under r w =
        let n = z +ℤ pos 1 in
        let c1 = with_end_value l z v old in
        let p = entry n w.of.hi w.of.value in
        let ends = r.ends in
        let past = r.over in
        let at_it : s ≡ l = by_lt_z s l
        (λ h. let u = ends_before eq s l r.of w.of old c r.found w.found h in absurd (omega (arith, ints)))
        (λ h. omega (arith, ints)) in
        let one : w.of ≡ r.of = one_value (start_at s old) (ap (λ x. start_at x old) at_it ∙ w.found) r.found in
        record {
          below = ap (below l) w.replaced ∙ below_with l p c1 (omega (arith, ints)) ∙ below_replaced l l z v old (omega (arith, ints));
          here = ap (start_at l) w.replaced ∙ start_beside l p c1 (λ t. omega (arith, ints)) ∙ start_replaced l z v old present;
          like = rest_like z s t old (from n new) r w.of.value (subst (λ (x : Entry V). eq r.of.value x.value ≡ true) (sym one) (laws.refl r.of.value))
              (ap (from n) w.replaced ∙ from_with p c1 (start_beside_replaced n l z v old (λ t. omega (arith, ints)) ∙ r.none) ∙ ap (λ x. entry n x w.of.value ∷ from n c1) (ap (λ (x : Entry V). x.hi) one ∙ r.ends)
              ∙ ap (λ x. entry n t w.of.value ∷ x) (from_replaced n l z v old (omega (arith, ints))));
        }
