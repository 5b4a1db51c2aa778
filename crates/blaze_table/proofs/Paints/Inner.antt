-- The entries that start above a range's first key, up to its end. How many of them are removed, and the lists after
-- each edit.
use Rattle.blaze_table.proofs.Words.{◌≡◌, ℕ, ◌+◌, ◌≤◌, ℤ, pos, ◌+ℤ◌, ◌≤ℤ◌, ◌<ℤ◌, Bool, true, false, cond, List, [], ◌∷◌, ◌++◌, length, drop, Option, Some, None, refl, ◌∙◌, sym, subst, ap, arith, ⊎_elim, IsSome, IfSome, IsSomeAnd, is_some, int_lt, int_le, ◌||◌, option_map, int_eq, ints, by_lt_z, filter-append, lt_true, lt_false, StartsAscend, below, from, last_below, start_at, with_entry, without, with_end_value, IsStartMoved, IsFrontReplaced, by_order, start_none, StartsBelow, below_takes, below_skips, below_none, from_takes, from_skips, from_all, from_none, more_below, starts_from, length-below, Plan, IsCanonical, IsEditPlan, IsTailSplit, is_removed, Entry, entry, inner_entries, moved_count, IsTail}
use Rattle.blaze_table.proofs.Cuts.Splits.{last_at}
use Rattle.blaze_table.proofs.Neighbours.Growing.{last_there}
use Rattle.blaze_table.proofs.Paints.Clearing.{from_from}
use Rattle.blaze_table.proofs.Paints.Placing.{ends_before}
use Rattle.blaze_entries.proofs.EditLists.{below_with, from_with_under, from_without, from_replaced, start_skips, start_beside, start_beside_without}

-- both options are `Some`, or both are `None`
pub both_some : {A B C : Type 0} (f : A → C) (g : B → C) (a : Option A) (b : Option B) → option_map f a ≡ option_map g b → is_some a ≡ is_some b
both_some f g None None q = refl
both_some f g None (Some b) q = cc
both_some f g (Some a) None q = cc
both_some f g (Some a) (Some b) q = refl

module _ {V : Type 0} where
  -- the same list, filtered in the other order
  pub inner_parts : (l z : ℤ) (es : List (Entry V)) → inner_entries l z es ≡ below (z +ℤ pos 1) (from (l +ℤ pos 1) es)
  inner_parts l z [] = refl
  inner_parts l z (e ∷ es) = by_lt_z e.lo (z +ℤ pos 1)
      (λ u. by_lt_z e.lo (l +ℤ pos 1)
      (λ m. ap (from (l +ℤ pos 1)) (below_takes (z +ℤ pos 1) e es u) ∙ from_skips (l +ℤ pos 1) e (below (z +ℤ pos 1) es) m ∙ inner_parts l z es ∙ sym (ap (below (z +ℤ pos 1)) (from_skips (l +ℤ pos 1) e es m)))
      (λ m.
      ap (from (l +ℤ pos 1)) (below_takes (z +ℤ pos 1) e es u) ∙ from_takes (l +ℤ pos 1) e (below (z +ℤ pos 1) es) m ∙ ap (λ t. e ∷ t) (inner_parts l z es)
      ∙ sym (ap (below (z +ℤ pos 1)) (from_takes (l +ℤ pos 1) e es m) ∙ below_takes (z +ℤ pos 1) e (from (l +ℤ pos 1) es) u)))
      (λ u. by_lt_z e.lo (l +ℤ pos 1)
      (λ m. ap (from (l +ℤ pos 1)) (below_skips (z +ℤ pos 1) e es u) ∙ inner_parts l z es ∙ sym (ap (below (z +ℤ pos 1)) (from_skips (l +ℤ pos 1) e es m)))
      (λ m.
      ap (from (l +ℤ pos 1)) (below_skips (z +ℤ pos 1) e es u) ∙ inner_parts l z es
      ∙ sym (ap (below (z +ℤ pos 1)) (from_takes (l +ℤ pos 1) e es m) ∙ below_skips (z +ℤ pos 1) e (from (l +ℤ pos 1) es) u)))

  -- no more than the entries that start above l
  pub inner_fits : (l z : ℤ) (es : List (Entry V)) (n : ℕ) → length (inner_entries l z es) ≡ n → n ≤ length (from (l +ℤ pos 1) es)
  inner_fits l z es n q =
      let parts = ap length (inner_parts l z es) in
      omega (arith, q, parts, length-below (z +ℤ pos 1) (from (l +ℤ pos 1) es))

  drop_below : (k b high : ℤ) (es : List (Entry V)) → StartsAscend b high es → drop (length (below k es)) es ≡ from k es
  drop_below k b high [] s = refl
  drop_below k b high (e ∷ es) s = by_lt_z e.lo k
      (λ u. ap (λ xs. drop (length xs) (e ∷ es)) (below_takes k e es u) ∙ drop_below k (e.lo +ℤ pos 1) high es s.2 ∙ sym (from_skips k e es u))
      (λ u.
      let up : StartsAscend e.lo high (e ∷ es) = (omega (arith, ints), s.1, s.2) in
      ap (λ xs. drop (length xs) (e ∷ es)) (below_none k e.lo high (e ∷ es) u up) ∙ sym (from_all k e.lo high (e ∷ es) u up))

  -- after they are removed, the entries that start above l are those that start above z
  pub cleared : (l z low high : ℤ) (es : List (Entry V)) → StartsAscend low high es → l ≤ℤ z → (n : ℕ) → length (inner_entries l z es) ≡ n → drop n (from (l +ℤ pos 1) es) ≡ from (z +ℤ pos 1) es
  cleared l z low high es s w n q =
      let up = from (l +ℤ pos 1) es in
      ap (λ k. drop k up) (sym q ∙ ap length (inner_parts l z es)) ∙ drop_below (z +ℤ pos 1) (l +ℤ pos 1) high up (starts_from (l +ℤ pos 1) low high es s)
      ∙ from_from (l +ℤ pos 1) (z +ℤ pos 1) es (omega (arith, ints))

  -- their number is the same if the same entries start above l
  pub inner_same : (l z : ℤ) (new old : List (Entry V)) → from (l +ℤ pos 1) new ≡ from (l +ℤ pos 1) old → length (inner_entries l z new) ≡ length (inner_entries l z old)
  inner_same l z new old q = ap length (inner_parts l z new ∙ ap (below (z +ℤ pos 1)) q ∙ sym (inner_parts l z old))

  -- their number is one lower if one of them is removed
  inner_without : (l z s : ℤ) (es : List (Entry V)) → l <ℤ s → s ≤ℤ z → IsSome (start_at s es) → length (inner_entries l z (without s es)) + 1 ≡ length (inner_entries l z es)
  inner_without l z s [] a u i = cc
  inner_without l z s (f ∷ fs) a u i = by_order s f.lo
      (λ o q r. kept r (inner_without l z s fs a u (still r)))
      (λ o q r. rw (r, below_takes (z +ℤ pos 1) f fs (omega (arith, ints)), from_takes (l +ℤ pos 1) f (below (z +ℤ pos 1) fs) (omega (arith, ints))) (omega arith))
      (λ o q r. kept r (inner_without l z s fs a u (still r)))
    where
      still : int_eq s f.lo ≡ false → IsSome (start_at s fs)
      still r = subst (λ b. IsSome (cond b (Some f) (start_at s fs))) r i

      kept : int_eq s f.lo ≡ false → length (inner_entries l z (without s fs)) + 1 ≡ length (inner_entries l z fs) → length (inner_entries l z (without s (f ∷ fs))) + 1 ≡ length (inner_entries l z (f ∷ fs))
      kept r later =
          let now = ap (λ b. length (inner_entries l z (cond b fs (f ∷ without s fs)))) r in
          omega (arith, later, first fs, first (without s fs), now)
        where
          first : (xs : List (Entry V)) → length (inner_entries l z (f ∷ xs)) ≡ length (inner_entries l z (f ∷ [])) + length (inner_entries l z xs)
          first xs = by_lt_z f.lo (z +ℤ pos 1)
              (λ u. by_lt_z f.lo (l +ℤ pos 1)
              (λ m. rw (below_takes (z +ℤ pos 1) f xs u, below_takes (z +ℤ pos 1) f [] u, from_skips (l +ℤ pos 1) f (below (z +ℤ pos 1) xs) m, from_skips (l +ℤ pos 1) f [] m) (omega arith))
              (λ m. rw (below_takes (z +ℤ pos 1) f xs u, below_takes (z +ℤ pos 1) f [] u, from_takes (l +ℤ pos 1) f (below (z +ℤ pos 1) xs) m, from_takes (l +ℤ pos 1) f [] m) (omega arith)))
              (λ u. rw (below_skips (z +ℤ pos 1) f xs u, below_skips (z +ℤ pos 1) f [] u) (omega arith))

  -- an entry exists
  some_is : {a : Entry V} (o : Option (Entry V)) → o ≡ Some a → IsSome o
  some_is o p = subst (λ x. IsSome x) (sym p) refl

  -- the entry that keeps its keys above the range starts up to z
  pub rest_under : (z : ℤ) (es : List (Entry V)) (tail : Option (ℤ × ℤ)) → IsTail z es tail → IfSome tail (λ r. r.0 ≤ℤ z)
  rest_under z es None r = tt
  rest_under z es (Some e) r = r.starts

  -- the part above z became a separate entry; if its entry started above l, its start moved
  pub rest_inner : (l m z : ℤ) (tail : Option (ℤ × ℤ)) (above : Option V) (old new : List (Entry V)) → m ≤ℤ l → IfSome tail (λ r. r.0 ≤ℤ z) → IsTailSplit m z tail above old new
      → length (inner_entries l z new) + moved_count l tail ≡ length (inner_entries l z old)
  rest_inner l m z None above old new w u q = let same = ap (λ xs. length (inner_entries l z xs)) q in omega (arith, same)
  rest_inner l m z (Some r) above old new w u q = ⊎_elim (λ p. put above p.0 p.1) (λ p. shifted p.1) q
    where
      put : (o : Option V) → r.0 <ℤ m → IsSomeAnd o (λ v. new ≡ with_entry (entry (z +ℤ pos 1) r.1 v) old) → length (inner_entries l z new) + moved_count l (Some r) ≡ length (inner_entries l z old)
      put None a n = absurd n
      put (Some v) a n =
          let same = ap length (ap (inner_entries l z) n ∙ ap (from (l +ℤ pos 1)) (below_with (z +ℤ pos 1) (entry (z +ℤ pos 1) r.1 v) old (omega (arith, ints)))) in
          rw (lt_false l r.0 (omega (arith, ints))) (omega (arith, same))

      shifted : IsStartMoved r.0 (z +ℤ pos 1) old new → length (inner_entries l z new) + moved_count l (Some r) ≡ length (inner_entries l z old)
      shifted i =
          let same = ap length (ap (inner_entries l z) i.moved ∙ ap (from (l +ℤ pos 1)) (below_with (z +ℤ pos 1) (entry (z +ℤ pos 1) i.of.hi i.of.value) (without r.0 old) (omega (arith, ints)))) in
          by_lt_z l r.0
          (λ a. rw (lt_true l r.0 a) (omega (arith, same, inner_without l z r.0 old a u (some_is (start_at r.0 old) i.found))))
          (λ a. rw (lt_false l r.0 a) (omega (arith, same, inner_same l z (without r.0 old) old (from_without (l +ℤ pos 1) r.0 old (omega (arith, ints))))))

  pub rest_gone : (l z : ℤ) (tail : Option (ℤ × ℤ)) (above : Option V) (n : ℕ) (old new : List (Entry V)) → n + moved_count l tail ≡ length (inner_entries l z old) → IfSome tail (λ r. r.0 ≤ℤ z) → IsTailSplit l z tail above old new → length (inner_entries l z new) ≡ n
  rest_gone l z tail above n old new g u q = let moves = rest_inner l l z tail above old new (omega (arith, ints)) u q in omega (arith, g, moves)

  -- an entry is inserted at p, and then the part above it becomes a separate entry
  pub new_gone : (p : Entry V) (n : ℕ) (tail : Option (ℤ × ℤ)) (above : Option V) (old c new : List (Entry V)) → n + moved_count p.lo tail ≡ length (inner_entries p.lo p.hi old) → IfSome tail (λ r. r.0 ≤ℤ p.hi)
      → c ≡ with_entry p old → IsTailSplit p.lo p.hi tail above c new → length (inner_entries p.lo p.hi new) ≡ n
  new_gone p n tail above old c new g u e q =
      let put = inner_same p.lo p.hi c old (ap (from (p.lo +ℤ pos 1)) e ∙ from_with_under (p.lo +ℤ pos 1) p old (omega (arith, ints))) in
      let moves = rest_inner p.lo p.lo p.hi tail above c new (omega (arith, ints)) u q in
      omega (arith, g, put, moves)

  -- the part above z becomes a separate entry, and then the entry at l is replaced
  pub over_gone : (l z : ℤ) (v : V) (n : ℕ) (tail : Option (ℤ × ℤ)) (above : Option V) (old c new : List (Entry V)) → n + moved_count l tail ≡ length (inner_entries l z old) → IfSome tail (λ r. r.0 ≤ℤ z)
      → IsTailSplit l z tail above old c → new ≡ with_end_value l z v c → length (inner_entries l z new) ≡ n
  over_gone l z v n tail above old c new g u q e =
      let put = inner_same l z new c (ap (from (l +ℤ pos 1)) e ∙ from_replaced (l +ℤ pos 1) l z v c (omega (arith, ints))) in
      let moves = rest_inner l l z tail above old c (omega (arith, ints)) u q in
      omega (arith, g, put, moves)

  -- the front of the entry at l is replaced
  pub front_gone : (l z s t : ℤ) (v : V) (n : ℕ) (old new : List (Entry V)) → s ≤ℤ l → n + moved_count l (Some (s, t)) ≡ length (inner_entries l z old) → IsFrontReplaced l z v (z +ℤ pos 1) old new → length (inner_entries l z new) ≡ n
  front_gone l z s t v n old new u g i =
      let put = ap length (ap (inner_entries l z) i.replaced ∙ ap (from (l +ℤ pos 1)) (below_with (z +ℤ pos 1) (entry (z +ℤ pos 1) i.of.hi i.of.value) (with_end_value l z v old) (omega (arith, ints)))) in
      let same = inner_same l z (with_end_value l z v old) old (from_replaced (l +ℤ pos 1) l z v old (omega (arith, ints))) in
      let stays : moved_count l (Some (s, t)) ≡ 0 = rw (lt_false l s u) refl in
      omega (arith, g, put, same, stays)

  -- no entry starts at the start of a removed one
  start_gone : (k b high : ℤ) (es : List (Entry V)) → StartsAscend b high es → start_at k (without k es) ≡ None
  start_gone k b high [] s = refl
  start_gone k b high (e ∷ es) s = by_order k e.lo
      (λ o q r. rw (r, r) (start_gone k (e.lo +ℤ pos 1) high es s.2))
      (λ o q r. rw r (start_none k (e.lo +ℤ pos 1) high es (omega (arith, ints)) s.2))
      (λ o q r. rw (r, r) (start_gone k (e.lo +ℤ pos 1) high es s.2))

  -- the entry that then starts at l
  pub rest_start : {X : Type 0} (l m z low high : ℤ) (at_start : Option X) (tail : Option (ℤ × ℤ)) (above : Option V) (old new : List (Entry V)) → m ≤ℤ l → l ≤ℤ z → StartsAscend low high old
      → is_some at_start ≡ is_some (start_at l old) → IsTailSplit m z tail above old new → is_removed l at_start tail ≡ is_some (start_at l new)
  rest_start l m z low high None None above old new w u s f q = f ∙ ap (λ xs. is_some (start_at l xs)) (sym q)
  rest_start l m z low high (Some x) None above old new w u s f q = f ∙ ap (λ xs. is_some (start_at l xs)) (sym q)
  rest_start {X} l m z low high at_start (Some r) above old new w u s f q = ⊎_elim (λ p. put above p.0 p.1) (λ p. shifted p.1) q
    where
      -- it is not the entry that keeps its keys above the range
      other : (at_start : Option X) → (int_lt l r.0 || int_lt r.0 l) ≡ true → is_removed l at_start (Some r) ≡ is_some at_start
      other None t = refl
      other (Some x) t = t

      same_one : (at_start : Option X) → (int_lt l r.0 || int_lt r.0 l) ≡ false → is_removed l at_start (Some r) ≡ false
      same_one None t = refl
      same_one (Some x) t = t

      put : (o : Option V) → r.0 <ℤ m → IsSomeAnd o (λ v. new ≡ with_entry (entry (z +ℤ pos 1) r.1 v) old) → is_removed l at_start (Some r) ≡ is_some (start_at l new)
      put None a n = absurd n
      put (Some v) a n =
          other at_start (rw (lt_false l r.0 (omega (arith, ints)), lt_true r.0 l (omega (arith, ints))) refl) ∙ f
          ∙ sym (ap (λ o. is_some o) (ap (start_at l) n ∙ start_beside l (entry (z +ℤ pos 1) r.1 v) old (λ t. absurd (omega (arith, ints)))))

      shifted : IsStartMoved r.0 (z +ℤ pos 1) old new → is_removed l at_start (Some r) ≡ is_some (start_at l new)
      shifted i =
          let at_l : start_at l new ≡ start_at l (without r.0 old) = ap (start_at l) i.moved ∙ start_beside l (entry (z +ℤ pos 1) i.of.hi i.of.value) (without r.0 old) (λ t. absurd (omega (arith, ints))) in
          by_order l r.0
          (λ o p t. other at_start (rw (lt_true l r.0 o) refl) ∙ f ∙ sym (ap (λ y. is_some y) (at_l ∙ start_beside_without l r.0 old (λ t. absurd (omega (arith, ints))))))
          (λ o p t. same_one at_start (rw (lt_false l r.0 (omega (arith, ints)), lt_false r.0 l (omega (arith, ints))) refl) ∙ sym (ap (λ y. is_some y) (at_l ∙ ap (λ k. start_at l (without k old)) (sym o) ∙ start_gone l low high old s)))
          (λ o p t. other at_start (rw (lt_false l r.0 (omega (arith, ints)), lt_true r.0 l o) refl) ∙ f ∙ sym (ap (λ y. is_some y) (at_l ∙ start_beside_without l r.0 old (λ t. absurd (omega (arith, ints))))))

  -- the entries that start up to a key, without the one that starts at it
  pub below_gone : (k b high : ℤ) (es : List (Entry V)) → StartsAscend b high es → below (k +ℤ pos 1) (without k es) ≡ below k es
  below_gone k b high [] s = refl
  below_gone k b high (e ∷ es) s = by_order k e.lo
      (λ o q r. rw r (below_skips (k +ℤ pos 1) e (without k es) (omega (arith, ints)) ∙ below_gone k (e.lo +ℤ pos 1) high es s.2 ∙ sym (below_skips k e es (omega (arith, ints)))))
      (λ o q r. rw r (below_none (k +ℤ pos 1) (e.lo +ℤ pos 1) high es (omega (arith, ints)) s.2 ∙ sym (below_none k e.lo high (e ∷ es) (omega (arith, ints)) (omega (arith, ints), s.1, s.2))))
      (λ o q r. rw r (below_takes (k +ℤ pos 1) e (without k es) (omega (arith, ints)) ∙ ap (λ t. e ∷ t) (below_gone k (e.lo +ℤ pos 1) high es s.2) ∙ sym (below_takes k e es (omega (arith, ints)))))

  -- the entry below a range is shortened
  module _ (l : ℤ) (front old new : List (Entry V)) (under : StartsBelow l front) (q : new ≡ front ++ from l old) where
    pub from_trimmed : from (l +ℤ pos 1) new ≡ from (l +ℤ pos 1) old
    from_trimmed =
        ap (from (l +ℤ pos 1)) q ∙ filter-append (λ x. int_le (l +ℤ pos 1) x.lo) front (from l old)
        ∙ ap (λ x. x ++ from (l +ℤ pos 1) (from l old)) (from_none (l +ℤ pos 1) front (more_below l (l +ℤ pos 1) front (omega (arith, ints)) under)) ∙ from_from l (l +ℤ pos 1) old (omega (arith, ints))

    pub start_trimmed : start_at l new ≡ start_at l old
    start_trimmed = ap (start_at l) q ∙ behind front under ∙ start_from old
      where
        behind : (xs : List (Entry V)) → StartsBelow l xs → start_at l (xs ++ from l old) ≡ start_at l (from l old)
        behind [] h = refl
        behind (x ∷ xs) h = start_skips l x (xs ++ from l old) (λ t. absurd (omega (arith, ints, h.0))) ∙ behind xs h.1

        start_from : (es : List (Entry V)) → start_at l (from l es) ≡ start_at l es
        start_from [] = refl
        start_from (e ∷ es) = by_lt_z e.lo l
            (λ m. ap (start_at l) (from_skips l e es m) ∙ start_from es ∙ sym (start_skips l e es (λ t. absurd (omega (arith, ints)))))
            (λ m. ap (start_at l) (from_takes l e es m) ∙ ap (λ o. cond (int_eq l e.lo) (Some e) o) (start_from es))

-- if an entry starts at l, the one below it does not extend above z
pub place_over : {T V : Type 0} (eq : V → V → Bool) (rank : T → ℤ) (l low high : ℤ) (es : List (Entry V)) (plan : Plan T) (above : Option V) → StartsAscend low high es → IsCanonical eq es → IsSome (start_at l es)
    → IsEditPlan rank eq l es plan above → IsEditPlan rank eq l es plan None
place_over {T} {V} eq rank l low high es plan above s c here p = record { order = p.order; tail = p.tail; predecessor = p.predecessor; at_start = p.at_start; removed_count = p.removed_count; tail_value = by_last (last_below l es) refl }
  where
    by_start : (e : Entry V) → last_below l es ≡ Some e → (o : Option (Entry V)) → start_at l es ≡ o → IsSome o → rank plan.end <ℤ e.hi → ⊥
    by_start e q None r i u = cc
    by_start e q (Some g) r i u =
        let at_e = last_at l low high e es s q in
        let ends = ends_before eq e.lo l e g es c (last_there l high e es at_e) r at_e.starts in
        let order = p.order in
        omega (arith, ints)

    by_last : (o : Option (Entry V)) → last_below l es ≡ o → IfSome o (λ e. rank plan.end <ℤ e.hi → IsSomeAnd None (λ u. eq e.value u ≡ true))
    by_last None q = tt
    by_last (Some e) q = λ u. absurd (by_start e q (start_at l es) refl here u)
