-- The facts about the list that the plan of a paint gives.
use Rattle.blaze_table.proofs.Words.{◌≡◌, ℤ, pos, ◌+ℤ◌, ◌≤ℤ◌, ◌<ℤ◌, Bool, true, false, cond, List, [], ◌∷◌, Option, Some, None, refl, ◌∙◌, sym, subst, ap, arith, inl, inr, IfSome, IsSomeAnd, int_le, ◌&&◌, ◌||◌, option_map, ints, by_lt_z, by_bool, lt_true, lt_false, not_both, int_eq, found_in, range_in, shown_found, shown_ends, Seen, shown_plan, StartsAscend, from, last_below, start_at, RangeEntry, Plan, one_value, from_takes, from_skips, Entry, entry, IsEditPlan, IsCanonical, IsLikeAbove, IsUnjoined, IsJoinedTo, IsJoinedEnd, tail_of, joined_start, IsPlanOf, IsEntryAcross, IsTail, after, IsAbove, IsAbove-from_apart, above_by, by_after, after_skips}
use Rattle.blaze_table.proofs.Cuts.Splits.{LastAt, last_at, after_short, after_long, after_none, none_next}
use Rattle.blaze_table.proofs.Neighbours.Growing.{last_there, left_is}
use Rattle.blaze_table.proofs.Paints.Placing.{around_last}
use Rattle.blaze_table.proofs.Paints.Widened.{after_over, started_at, end_up}

module _ {V : Type 0} (eq : V → V → Bool) where
  -- all entries above z start above it
  pub from_above : (z : ℤ) (es : List (Entry V)) → IsAbove z es → IsCanonical eq es → from (z +ℤ pos 1) es ≡ es
  from_above z [] a c = refl
  from_above z (e ∷ es) a c =
      from_takes (z +ℤ pos 1) e es (omega (arith, ints, a))
      ∙ ap (λ t. e ∷ t) (from_above z es (above_by e.hi z es (omega (arith, ints, a, c.0)) (IsAbove-from_apart eq e es c.1)) c.2)

  -- if an entry ends at z, the part above z starts above it
  ended_at : (z : ℤ) (e : Entry V) (es : List (Entry V)) → IsCanonical eq (e ∷ es) → e.hi ≡ z → after z (e ∷ es) ≡ from (z +ℤ pos 1) (e ∷ es)
  ended_at z e es c q =
      let a = above_by e.hi z es (omega (arith, ints)) (IsAbove-from_apart eq e es c.1) in
      after_skips z e es (omega (arith, ints)) ∙ after_over eq z es a c.2
      ∙ sym (from_skips (z +ℤ pos 1) e es (omega (arith, ints, c.0)) ∙ from_above z es a c.2)

  after_end : (h z : ℤ) (n : Entry V) (ns es : List (Entry V)) → h ≤ℤ z → IsCanonical eq es → after h es ≡ n ∷ ns → n.hi ≡ z → after z es ≡ from (z +ℤ pos 1) es
  after_end h z n ns [] l c p q = refl
  after_end h z n ns (e ∷ es) l c p q = by_after h e es
      (λ u r. after_skips z e es (omega (arith, ints)) ∙ after_end h z n ns es l c.2 (sym r ∙ p) q ∙ sym (from_skips (z +ℤ pos 1) e es (omega (arith, ints, c.0))))
      (λ u m r. ended_at z e es c (last_key (entry (h +ℤ pos 1) e.hi e.value) es (sym r ∙ p)))
      (λ u m r. ended_at z e es c (last_key e es (sym r ∙ p)))
    where
      last_key : (x : Entry V) (xs : List (Entry V)) → x ∷ xs ≡ n ∷ ns → x.hi ≡ z
      last_key x xs w = let same : x ≡ n = cc in ap (λ (y : Entry V). y.hi) same ∙ q

-- the ends of an entry that a lookup returned
found_ends : {T V : Type 0} (rank : T → ℤ) (test : V → Bool) (a : Option (RangeEntry T Bool)) (o : Option (Entry V)) → option_map (shown_found rank) a ≡ option_map (found_in test) o → option_map (shown_ends rank) a ≡ option_map range_in o
found_ends rank test None None q = refl
found_ends rank test None (Some e) q = cc
found_ends rank test (Some f) None q = cc
found_ends rank test (Some f) (Some e) q = let found : shown_found rank f ≡ found_in test e = cc in ap (λ (t : ℤ × ℤ × Bool). Some (t.0, t.1)) found

module _ {V : Type 0} (eq : V → V → Bool) (test : V → Bool) (l h : ℤ) (w : l ≤ℤ h) (low high : ℤ) (es : List (Entry V)) (s : StartsAscend low high es) (c : IsCanonical eq es) where
  -- the entry that keeps its keys above the range, by the last entry that starts up to h
  module _ (z : ℤ) (up : h ≤ℤ z) (end : IsJoinedEnd test h es z) where
    no_rest : after h es ≡ from (h +ℤ pos 1) es → after z es ≡ from (z +ℤ pos 1) es
    no_rest q = elim end [
      | inl e ↦ subst (λ (x : ℤ). after x es ≡ from (x +ℤ pos 1) es) (sym e.0) q
      | inr e ↦ after_end eq h z e.next e.others es up c e.first e.ends
    ]

    module _ (e : Entry V) (is : last_below (h +ℤ pos 1) es ≡ Some e) (over : h <ℤ e.hi) where
      abbrev i : LastAt (h +ℤ pos 1) high e es
      i = last_at (h +ℤ pos 1) low high e es s is

      equal_rest : test e.value ≡ true → after z es ≡ from (z +ℤ pos 1) es
      equal_rest q = elim end [
        | inl j ↦ absurd (not_both (test e.value) q (subst (IsUnjoined test h) (after_long eq h high e es i c over) j.1 refl))
        | inr j ↦ after_end eq h z j.next j.others es up c j.first j.ends
      ]

      equal_end : test e.value ≡ true → z ≡ e.hi
      equal_end q = elim end [
        | inl j ↦ absurd (not_both (test e.value) q (subst (IsUnjoined test h) (after_long eq h high e es i c over) j.1 refl))
        | inr j ↦
            let both : j.next ∷ j.others ≡ entry (h +ℤ pos 1) e.hi e.value ∷ from (h +ℤ pos 1) es = sym j.first ∙ after_long eq h high e es i c over in
            let same : j.next ≡ entry (h +ℤ pos 1) e.hi e.value = cc in
            sym j.ends ∙ ap (λ (x : Entry V). x.hi) same
      ]

      unequal_rest : test e.value ≡ false → IsEntryAcross z es e.lo e.hi
      unequal_rest q = elim end [
        | inl j ↦ subst (λ (x : ℤ). IsEntryAcross x es e.lo e.hi) (sym j.0) (record {
          of = e;
          found = last_there (h +ℤ pos 1) high e es i;
          ends = refl;
          starts = omega (arith, ints, i.starts);
          over = over;
          none = none_next eq h high e es i c low s over;
          tail = after_long eq h high e es i c over;
        })
        | inr j ↦ absurd (unlike j)
      ]
        where
          unlike : IsJoinedTo test h (after h es) z → ⊥
          unlike j =
              let both : j.next ∷ j.others ≡ entry (h +ℤ pos 1) e.hi e.value ∷ from (h +ℤ pos 1) es = sym j.first ∙ after_long eq h high e es i c over in
              let same : j.next ≡ entry (h +ℤ pos 1) e.hi e.value = cc in
              not_both (test e.value) (subst (λ (x : Entry V). test x.value ≡ true) same j.like) q

    rest_from : (o : Option (Entry V)) → last_below (h +ℤ pos 1) es ≡ o → IsTail z es (tail_of h (option_map (found_in test) o))
    rest_from None q = no_rest (after_none eq h low high es s c q)
    rest_from (Some e) q = by_lt_z h e.hi
        (λ u. rw (lt_true h e.hi u) (by_bool (test e.value)
        (λ t. rw t (equal_rest e q u t))
        (λ t. rw t (unequal_rest e q u t))))
        (λ u. rw (lt_false h e.hi u) (no_rest (after_short eq h high e es (last_at (h +ℤ pos 1) low high e es s q) c u)))

  pub rest_is : (p : Seen) → h ≤ℤ p.end → IsPlanOf test l h es p → IsTail p.end es p.tail
  rest_is p up r = subst (IsTail p.end es) (sym r.tail) (rest_from p.end up r.end (last_below (h +ℤ pos 1) es) refl)

  -- the entry that the range is joined with does not extend above the joined range
  pub joined_within : (f : ℤ) (p : Seen) → Some f ≡ joined_start l p.predecessor → IsPlanOf test l h es p → IsLikeAbove eq l p.end es None
  joined_within f p q r = by_last (last_below l es) refl
    where
      by_last : (o : Option (Entry V)) → last_below l es ≡ o → IfSome o (λ e. p.end <ℤ e.hi → IsSomeAnd None (λ u. eq e.value u ≡ true))
      by_last None is = tt
      by_last (Some e) is = λ u.
          let t = started_at test l low high es s f (q ∙ ap (joined_start l) r.predecessor) in
          let same : t.of ≡ e = one_value (last_below l es) t.is is in
          let like : test e.value ≡ true = ap (λ (x : Entry V). test x.value) (sym same) ∙ t.like in
          let here = last_at l low high e es s is in
          let under = here.starts in
          let up = end_up eq test h es c p.end r.end in
          let last = around_last eq e.lo (h +ℤ pos 1) e es c (last_there l high e es here) (omega (arith, ints)) (omega (arith, ints)) in
          let all : p.end ≡ e.hi = equal_end p.end up r.end e last (omega (arith, ints)) like in
          absurd (omega (arith, ints))

  -- the plan meets the requirements of an edit
  pub place_is : {T : Type 0} (rank : T → ℤ) (plan : Plan T) (o : Option V) → IsPlanOf test l h es (shown_plan rank plan) → IsLikeAbove eq l (rank plan.end) es o → IsEditPlan rank eq l es plan o
  place_is rank plan o i like =
      let up = end_up eq test h es c (rank plan.end) i.end in
      record {
        order = omega (arith, ints);
        tail = rest_is (shown_plan rank plan) up i;
        predecessor = left_is rank test l low high es s plan.predecessor i.predecessor;
        at_start = found_ends rank test plan.at_start (start_at l es) i.at_start;
        removed_count = i.removed_count;
        tail_value = like;
      }

-- the start of the entry that a range is joined with
pub joined_left : {T : Type 0} (rank : T → ℤ) (l f : ℤ) (predecessor : Option (RangeEntry T Bool)) → Some f ≡ joined_start l (option_map (shown_found rank) predecessor) → option_map (λ x. rank x.start) predecessor ≡ Some f
joined_left rank l f None q = cc
joined_left rank l f (Some x) q =
    elim (x.value && (int_le l (rank x.end) || int_eq l (rank x.end +ℤ pos 1))) as (λ b. Some f ≡ cond b (Some (rank x.start)) None → Some (rank x.start) ≡ Some f) [
      | true ↦ λ t. sym t
      | false ↦ λ t. cc
    ] q
