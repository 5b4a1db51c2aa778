-- A walk's plan after one more entry in front of those visited.
use Rattle.blaze_entries.proofs.Words.{◌≡◌, ℕ, ◌+◌, length, ℤ, pos, ◌+ℤ◌, ◌≤ℤ◌, ◌<ℤ◌, Bool, true, false, cond, List, [], ◌∷◌, ◌++◌, Option, Some, None, refl, ◌∙◌, sym, subst, ap, arith, int_lt, int_le, ◌||◌, int_eq, last_or, option_map, ints, by_lt_z, filter-append, by_bool, lt_true, lt_false, le_true, le_false, Entry, found_in, StartsAscend, below, from, last_below, start_at, RangesAscend, Seen, end_of, tail_of, inner_entries, moved_count, IsSeenIn, unseen, seen, seen_end, seen_start, seen_within}
use Rattle.blaze_entries.proofs.Ascending.{by_order, start_lower, start_none}
use Rattle.blaze_entries.proofs.Halves.{StartsBelow, below_none, below_skips, below_takes, from_takes, from_skips}

-- if ranges ascend, their starts ascend
pub starts_of : {V : Type 0} (b high : ℤ) (es : List (Entry V)) → RangesAscend b high es → StartsAscend b high es
starts_of b high [] r = tt
starts_of b high (e ∷ es) r =
    (r.0, omega (arith, ints, r.1, r.2), start_lower (e.hi +ℤ pos 1) (e.lo +ℤ pos 1) high es (omega (arith, ints, r.1)) (starts_of (e.hi +ℤ pos 1) high es r.3))

-- the last entry that starts below k, after others
pub last_past : {V : Type 0} (k : ℤ) (xs : List (Entry V)) (e : Entry V) (ys : List (Entry V)) → e.lo <ℤ k → last_below k (xs ++ e ∷ ys) ≡ last_below k (e ∷ ys)
last_past {V} k xs e ys u =
    ap (last_or None) (filter-append (λ x. int_lt x.lo k) xs (e ∷ ys) ∙ ap (λ z. below k xs ++ z) (below_takes k e ys u)) ∙ last_in None (below k xs) (below k ys) ∙ sym (ap (last_or None) (below_takes k e ys u))
  where
    last_in : (o : Option (Entry V)) (zs ws : List (Entry V)) → last_or o (zs ++ e ∷ ws) ≡ last_or (Some e) ws
    last_in o [] ws = refl
    last_in o (z ∷ zs) ws = last_in (Some z) zs ws

module _ {V : Type 0} (test : V → Bool) (l h high : ℤ) (w : l ≤ℤ h) where
  abbrev shown : Option (Entry V) → Option (ℤ × ℤ × Bool)
  shown o = option_map (found_in test) o

  -- the plan is empty if all entries start above the key above the range
  pub none_seen : (b : ℤ) (es : List (Entry V)) → (h +ℤ pos 2) ≤ℤ b → StartsAscend b high es → IsSeenIn test l h es (unseen h)
  none_seen b es u s = record {
    end = sym (ap (λ x. end_of h (shown (last_or None x))) (below_none (h +ℤ pos 2) b high es u s));
    tail = sym (ap (λ x. tail_of h (shown (last_or None x))) (below_none (h +ℤ pos 1) b high es (omega (arith, ints)) s));
    at_start = sym (ap shown (start_none l b high es (omega (arith, ints)) s));
    predecessor = sym (ap (λ x. shown (last_or None x)) (below_none l b high es (omega (arith, ints)) s));
    removed_count = sym (ap (λ x. length (from (l +ℤ pos 1) x)) (below_none (h +ℤ pos 1) b high es (omega (arith, ints)) s));
  }

  -- no other plan fits
  only_none : (b : ℤ) (es : List (Entry V)) → (h +ℤ pos 2) ≤ℤ b → StartsAscend b high es → (q : Seen) → IsSeenIn test l h es q → q ≡ unseen h
  only_none b es u s q i =
      let n = none_seen b es u s in
      let end = i.end ∙ sym n.end in
      let tail = i.tail ∙ sym n.tail in
      let removed_count = i.removed_count ∙ ap (λ z. length (inner_entries l z es)) end ∙ sym n.removed_count in
      let none = ap (moved_count l) tail in
      sym (same end tail (i.at_start ∙ sym n.at_start) (i.predecessor ∙ sym n.predecessor) (omega (arith, removed_count, none)))
    where
      same : {a : ℤ} {b : Option (ℤ × ℤ)} {c d : Option (ℤ × ℤ × Bool)} {e : ℕ} → a ≡ h → b ≡ None → c ≡ None → d ≡ None → e ≡ 0 → unseen h ≡ record { end = a; tail = b; at_start = c; predecessor = d; removed_count = e }
      same p q r s t = cc

  abbrev gone_of : Bool → Seen → Seen
  gone_of b s = cond b (record s { removed_count = s.removed_count + 1 }) s

  -- an entry in front counts if it starts above l, up to z
  inner_takes : (z : ℤ) (e : Entry V) (es : List (Entry V)) → l <ℤ e.lo → e.lo ≤ℤ z → length (inner_entries l z (e ∷ es)) ≡ length (inner_entries l z es) + 1
  inner_takes z e es a u =
      let all = ap (λ x. length (from (l +ℤ pos 1) x)) (below_takes (z +ℤ pos 1) e es (omega (arith, ints))) in
      let one = ap length (from_takes (l +ℤ pos 1) e (below (z +ℤ pos 1) es) (omega (arith, ints))) in
      omega (arith, all, one)

  inner_low : (z : ℤ) (e : Entry V) (es : List (Entry V)) → e.lo ≤ℤ l → length (inner_entries l z (e ∷ es)) ≡ length (inner_entries l z es)
  inner_low z e es a = by_lt_z e.lo (z +ℤ pos 1)
      (λ u. ap (λ x. length (from (l +ℤ pos 1) x)) (below_takes (z +ℤ pos 1) e es u) ∙ ap length (from_skips (l +ℤ pos 1) e (below (z +ℤ pos 1) es) (omega (arith, ints))))
      (λ u. ap (λ x. length (from (l +ℤ pos 1) x)) (below_skips (z +ℤ pos 1) e es u))

  inner_none : (z b : ℤ) (es : List (Entry V)) → z <ℤ b → StartsAscend b high es → length (inner_entries l z es) ≡ 0
  inner_none z b es a s = ap (λ x. length (from (l +ℤ pos 1) x)) (below_none (z +ℤ pos 1) b high es (omega (arith, ints)) s)

  -- the number of removed entries, once the entry e is visited
  record IsGone (q : Seen) (es : List (Entry V)) (e : Entry V) : Type 0 where
    under : e.lo ≤ℤ l → q.removed_count + moved_count l q.tail ≡ length (inner_entries l q.end es)
    over : l <ℤ e.lo → (gone_of (test e.value || int_le e.hi h) q).removed_count + moved_count l q.tail ≡ length (inner_entries l q.end es)

  -- an entry below the others, which all start at l or above, once its end is in the plan
  start_seen : (e : Entry V) (es : List (Entry V)) → below l es ≡ [] → (p q : Seen) → seen_end h p (found_in test e) ≡ q → q.end ≡ end_of h (shown (last_below (h +ℤ pos 2) (e ∷ es))) → q.tail ≡ tail_of h (shown (last_below (h +ℤ pos 1) (e ∷ es)))
      → q.at_start ≡ shown (start_at l es) → q.predecessor ≡ None → IsGone q (e ∷ es) e → IsSeenIn test l h (e ∷ es) (seen l h p (found_in test e))
  start_seen e es under p q is end tail at_start predecessor removed_count = subst (λ x. IsSeenIn test l h (e ∷ es) (seen_start l h x (found_in test e))) (sym is) (by_order l e.lo
      (λ o c t. rw (lt_false e.lo l (omega (arith, ints)), le_false e.lo l o) (inside o t))
      (λ o c t. rw (lt_false e.lo l (omega (arith, ints)), le_true e.lo l (omega (arith, ints))) (record { end = end; tail = tail; at_start = rw t refl; predecessor = predecessor ∙ sym (over (omega (arith, ints))); removed_count = removed_count.under (omega (arith, ints)) }))
      (λ o c t. rw (lt_true e.lo l o) (record { end = end; tail = tail; at_start = rw t at_start; predecessor = sym (ap (λ x. shown (last_or None x)) (below_takes l e es o ∙ ap (λ x. e ∷ x) under)); removed_count = removed_count.under (omega (arith, ints)) })))
    where
      over : l ≤ℤ e.lo → shown (last_below l (e ∷ es)) ≡ None
      over u = ap (λ x. shown (last_or None x)) (below_skips l e es u ∙ under)

      inside : l <ℤ e.lo → int_eq l e.lo ≡ false → IsSeenIn test l h (e ∷ es) (seen_within h q (found_in test e))
      inside o t = elim (test e.value || int_le e.hi h) as (λ b. (gone_of b q).removed_count + moved_count l q.tail ≡ length (inner_entries l q.end (e ∷ es)) → IsSeenIn test l h (e ∷ es) (gone_of b q)) [
        | true ↦ λ u. record { end = end; tail = tail; at_start = rw t at_start; predecessor = predecessor ∙ sym (over (omega (arith, ints))); removed_count = u }
        | false ↦ λ u. record { end = end; tail = tail; at_start = rw t at_start; predecessor = predecessor ∙ sym (over (omega (arith, ints))); removed_count = u }
      ] (removed_count.over o)

  module _ (e : Entry V) (es : List (Entry V)) (near : e.lo ≤ℤ (h +ℤ pos 1)) (under : below l es ≡ []) where
    -- the entry extends above the range
    long_seen : e.lo ≤ℤ high → h <ℤ e.hi → StartsAscend (e.hi +ℤ pos 1) high es → IsSeenIn test l h (e ∷ es) (seen l h (unseen h) (found_in test e))
    long_seen e_key long past =
        by_bool (test e.value)
        (λ t. start_seen e es under (unseen h) (record (unseen h) { end = e.hi }) (rw (lt_true h e.hi long, t) refl) (rw (last, lt_true h e.hi long, t) refl) (rest_like t) none refl (record {
          under = λ v. omega (arith, inner_low e.hi e es v, none_past);
          over = λ v. rw t (omega (arith, inner_takes e.hi e es v (omega (arith, ints)), none_past));
        }))
        (λ t. by_lt_z h e.lo
        (λ b. start_seen e es under (unseen h) (unseen h) (rw (lt_true h e.hi long, t, le_false e.lo h b) refl) (rw (last, lt_true h e.hi long, t) refl) (rw (past_it b) refl) none refl (record {
          under = λ v. absurd (omega (arith, ints));
          over = λ v. rw (t, le_false e.hi h long) (sym (inner_none h (h +ℤ pos 1) (e ∷ es) (omega (arith, ints)) (omega (arith, ints), e_key, start_lower (e.hi +ℤ pos 1) (e.lo +ℤ pos 1) high es (omega (arith, ints)) past)));
        }))
        (λ b. start_seen e es under (unseen h) (record (unseen h) { tail = Some (e.lo, e.hi) }) (rw (lt_true h e.hi long, t, le_true e.lo h b) refl) (rw (last, lt_true h e.hi long, t) refl) (rw (at_it b, lt_true h e.hi long, t) refl) none refl (record {
          under = λ v. rw (lt_false l e.lo v) (omega (arith, inner_low h e es v, none_far));
          over = λ v. rw (t, le_false e.hi h long, lt_true l e.lo v) (omega (arith, inner_takes h e es v b, none_far));
        })))
      where
        far : StartsAscend (h +ℤ pos 2) high es
        far = start_lower (e.hi +ℤ pos 1) (h +ℤ pos 2) high es (omega (arith, ints)) past

        none : None ≡ shown (start_at l es)
        none = sym (ap shown (start_none l (h +ℤ pos 2) high es (omega (arith, ints)) far))

        none_past : length (inner_entries l e.hi es) ≡ 0
        none_past = inner_none e.hi (e.hi +ℤ pos 1) es (omega (arith, ints)) past

        none_far : length (inner_entries l h es) ≡ 0
        none_far = inner_none h (h +ℤ pos 2) es (omega (arith, ints)) far

        far_below : below (h +ℤ pos 1) es ≡ []
        far_below = below_none (h +ℤ pos 1) (h +ℤ pos 2) high es (omega (arith, ints)) far

        last : last_below (h +ℤ pos 2) (e ∷ es) ≡ Some e
        last = ap (last_or None) (below_takes (h +ℤ pos 2) e es (omega (arith, ints)) ∙ ap (λ x. e ∷ x) (below_none (h +ℤ pos 2) (h +ℤ pos 2) high es (omega (arith, ints)) far))

        at_it : e.lo ≤ℤ h → last_below (h +ℤ pos 1) (e ∷ es) ≡ Some e
        at_it b = ap (last_or None) (below_takes (h +ℤ pos 1) e es (omega (arith, ints)) ∙ ap (λ x. e ∷ x) far_below)

        past_it : h <ℤ e.lo → last_below (h +ℤ pos 1) (e ∷ es) ≡ None
        past_it b = ap (last_or None) (below_skips (h +ℤ pos 1) e es (omega (arith, ints)) ∙ far_below)

        rest_like : test e.value ≡ true → None ≡ tail_of h (shown (last_below (h +ℤ pos 1) (e ∷ es)))
        rest_like t = by_lt_z h e.lo
            (λ b. rw (past_it b) refl)
            (λ b. rw (at_it b, lt_true h e.hi long, t) refl)

    -- the entry ends within the range
    short_seen : e.lo ≤ℤ e.hi → e.hi ≤ℤ h → (q : Seen) → h ≤ℤ q.end → IsSeenIn test l h es q → IsSeenIn test l h (e ∷ es) (seen l h q (found_in test e))
    short_seen c u q up i =
        start_seen e es under q q (rw (lt_false h e.hi u) refl)
        (i.end ∙ last (end_of h) (rw (lt_false h e.hi u) refl) (below (h +ℤ pos 2) es) ∙ sym (ap (λ x. end_of h (shown (last_or None x))) (below_takes (h +ℤ pos 2) e es (omega (arith, ints)))))
        (i.tail ∙ last (tail_of h) (rw (lt_false h e.hi u) refl) (below (h +ℤ pos 1) es) ∙ sym (ap (λ x. tail_of h (shown (last_or None x))) (below_takes (h +ℤ pos 1) e es (omega (arith, ints)))))
        i.at_start
        (i.predecessor ∙ ap (λ x. shown (last_or None x)) under)
        (record {
          under = λ v. i.removed_count ∙ sym (inner_low q.end e es v);
          over = λ v. more v (test e.value);
        })
      where
        more : l <ℤ e.lo → (b : Bool) → (gone_of (b || int_le e.hi h) q).removed_count + moved_count l q.tail ≡ length (inner_entries l q.end (e ∷ es))
        more v true = let removed_count = i.removed_count in omega (arith, removed_count, inner_takes q.end e es v (omega (arith, ints)))
        more v false = let removed_count = i.removed_count in rw (le_true e.hi h u) (omega (arith, removed_count, inner_takes q.end e es v (omega (arith, ints))))

        last : {X : Type 0} (f : Option (ℤ × ℤ × Bool) → X) → f None ≡ f (shown (Some e)) → (xs : List (Entry V)) → f (shown (last_or None xs)) ≡ f (shown (last_or (Some e) xs))
        last f n [] = n
        last f n (x ∷ xs) = refl

  -- the joined range ends at the range's last key or above
  end_up : (o : Option (Entry V)) → h ≤ℤ end_of h (shown o)
  end_up None = omega (arith, ints)
  end_up (Some e) = by_lt_z h e.hi
      (λ u. rw (lt_true h e.hi u) (elim (test e.value) as (λ b. h ≤ℤ cond b e.hi h) [ true ↦ omega (arith, ints) | false ↦ omega (arith, ints) ]))
      (λ u. rw (lt_false h e.hi u) (omega (arith, ints)))

  -- one more entry, in front of entries that start at l or above
  pub next_seen : (b : ℤ) (e : Entry V) (es : List (Entry V)) → RangesAscend b high (e ∷ es) → e.lo <ℤ (h +ℤ pos 2) → StartsAscend l high es → (q : Seen) → IsSeenIn test l h es q → IsSeenIn test l h (e ∷ es) (seen l h q (found_in test e))
  next_seen b e es r near all q i =
      let under = below_none l l high es (omega (arith, ints)) all in
      let past = starts_of (e.hi +ℤ pos 1) high es r.3 in
      by_lt_z h e.hi
      (λ u. subst (λ x. IsSeenIn test l h (e ∷ es) (seen l h x (found_in test e))) (sym (only_none (e.hi +ℤ pos 1) es (omega (arith, ints)) past q i)) (long_seen e es (omega (arith, ints)) under (omega (arith, ints, r.1, r.2)) u past))
      (λ u. short_seen e es (omega (arith, ints)) under r.1 u q (subst (λ z. h ≤ℤ z) (sym i.end) (end_up (last_below (h +ℤ pos 2) es))) i)

  -- the entries before an entry that starts below l do not change the plan
  pub past_seen : (xs : List (Entry V)) (e : Entry V) (es : List (Entry V)) → StartsBelow l xs → e.lo <ℤ l → (q : Seen) → IsSeenIn test l h (e ∷ es) q → IsSeenIn test l h (xs ++ e ∷ es) q
  past_seen xs e es s v q i = record {
    end = i.end ∙ ap (λ o. end_of h (shown o)) (sym (last_past (h +ℤ pos 2) xs e es (omega (arith, ints))));
    tail = i.tail ∙ ap (λ o. tail_of h (shown o)) (sym (last_past (h +ℤ pos 1) xs e es (omega (arith, ints))));
    at_start = i.at_start ∙ ap shown (sym (start_past xs s));
    predecessor = i.predecessor ∙ ap shown (sym (last_past l xs e es v));
    removed_count = i.removed_count ∙ sym (inner_past xs s);
  }
    where
      start_past : (xs : List (Entry V)) → StartsBelow l xs → start_at l (xs ++ e ∷ es) ≡ start_at l (e ∷ es)
      start_past [] s = refl
      start_past (x ∷ xs) s = by_order l x.lo (λ o p t. absurd (omega (arith, ints, s.0))) (λ o p t. absurd (omega (arith, ints, s.0))) (λ o p t. rw t (start_past xs s.1))

      inner_past : (xs : List (Entry V)) → StartsBelow l xs → length (inner_entries l q.end (xs ++ e ∷ es)) ≡ length (inner_entries l q.end (e ∷ es))
      inner_past [] s = refl
      inner_past (x ∷ xs) s = inner_low q.end x (xs ++ e ∷ es) (omega (arith, ints, s.0)) ∙ inner_past xs s.1
