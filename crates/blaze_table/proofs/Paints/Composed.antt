-- The edits of a paint in place, one after another.
use Rattle.blaze_table.proofs.Words.{◌≡◌, ℤ, pos, ◌+ℤ◌, ◌-ℤ◌, ◌≤ℤ◌, ◌<ℤ◌, Bool, List, [], ◌∷◌, ◌++◌, length, Option, Some, None, refl, ◌∙◌, sym, subst, ap, arith, int_lt, int_le, option_map, ints, by_lt_z, append_assoc, append-nil, filter-append, Contains, Contains-append_right, StartsAscend, below, from, last_below, start_at, with_end, StartsBelow, below_takes, from_skips, below_all, below_none, from_none, more_below, starts_below, halves, range_in, shown_ends, RangeEntry, IsPredecessor, Entry, entry, IsCanonical, inner_entries, AreOtherEntriesKept, IsEntrySet, IsEntryBetween, IsEntryExtended, before, IsRangeTaken, by_before, before_ends, before_keeps, before_cuts}
use Rattle.blaze_table.proofs.Cuts.Splits.{last_at, from_at}
use Rattle.blaze_table.proofs.Neighbours.Growing.{last_there, below_last, front_last}
use Rattle.blaze_entries.proofs.EditLists.{end_put}
use Rattle.blaze_table.proofs.Paints.Clearing.{below_from, from_from}
use Rattle.blaze_table.proofs.Paints.Inner.{inner_same, from_trimmed, start_trimmed}

module _ {V : Type 0} (eq : V → V → Bool) where
  canonical_first : (xs ys : List (Entry V)) → IsCanonical eq (xs ++ ys) → IsCanonical eq xs
  canonical_first [] ys c = tt
  canonical_first (x ∷ []) ys c = (c.0, tt, tt)
  canonical_first (x ∷ y ∷ xs) ys c = (c.0, c.1, canonical_first (y ∷ xs) ys c.2)

  pub canonical_below : (k b high : ℤ) (es : List (Entry V)) → StartsAscend b high es → IsCanonical eq es → IsCanonical eq (below k es)
  canonical_below k b high es s c = canonical_first (below k es) (from k es) (subst (IsCanonical eq) (halves k b high es s) c)

  before_below : (k b high : ℤ) (es : List (Entry V)) → StartsAscend b high es → IsCanonical eq es → before k (below k es) ≡ before k es
  before_below k b high [] s c = refl
  before_below k b high (e ∷ es) s c = by_lt_z e.lo k
      (λ l. rw (below_takes k e es l) (by_before k e es
      (λ u p. before_keeps k e (below k es) u ∙ ap (λ t. e ∷ t) (before_below k (e.lo +ℤ pos 1) high es s.2 c.2) ∙ sym p)
      (λ u m p. before_cuts k e (below k es) u m ∙ sym p)
      (λ u m p. absurd (omega (arith, ints)))))
      (λ l. ap (before k) (below_none k e.lo high (e ∷ es) l (omega (arith, ints), s.1, s.2)) ∙ sym (before_ends k e es (omega (arith, ints, c.0)) l))

  starts_before : (k : ℤ) (es : List (Entry V)) → IsCanonical eq es → StartsBelow k (before k es)
  starts_before k [] c = tt
  starts_before k (e ∷ es) c = by_before k e es
      (λ u p. rw p (omega (arith, ints, c.0), starts_before k es c.2))
      (λ u m p. rw p (m, tt))
      (λ u m p. rw p tt)

  -- the entry below a range is shortened, which does not change the entries that start in the range
  module _ (l z : ℤ) (new third : List (Entry V)) (c : IsCanonical eq (below l new)) (q : third ≡ before l (below l new) ++ from l new) where
    pub trimmed_start : start_at l third ≡ start_at l new
    trimmed_start = start_trimmed l (before l (below l new)) new third (starts_before l (below l new) c) q

    pub trimmed_inner : length (inner_entries l z third) ≡ length (inner_entries l z new)
    trimmed_inner = inner_same l z third new (from_trimmed l (before l (below l new)) new third (starts_before l (below l new) c) q)

  pub rest_below : (l z : ℤ) (old new : List (Entry V)) → AreOtherEntriesKept eq (l -ℤ pos 1) z old new → below l new ≡ below l old
  rest_below l z old new r = let q : (l -ℤ pos 1) +ℤ pos 1 ≡ l = omega (arith, ints) in subst (λ x. below x new ≡ below x old) q r.below

  module _ (low high : ℤ) (es : List (Entry V)) (s : StartsAscend low high es) (c : IsCanonical eq es) where
    -- the entries that start below l are unchanged
    pub under_canonical : (l : ℤ) (c2 : List (Entry V)) → below l c2 ≡ below l es → IsCanonical eq (below l c2)
    under_canonical l c2 q = subst (IsCanonical eq) (sym q) (canonical_below l low high es s c)

    -- a range is removed
    pub taken_out : (l z : ℤ) → l ≤ℤ z → (c2 c3 c4 : List (Entry V)) → AreOtherEntriesKept eq (l -ℤ pos 1) z es c2 → c3 ≡ before l (below l c2) ++ from l c2 → c4 ≡ below l c3 ++ from (z +ℤ pos 1) c3 → IsRangeTaken eq l z es c4
    taken_out l z w c2 c3 c4 r q t =
        let front = before l (below l es) in
        let front_below = starts_before l (below l es) (canonical_below l low high es s c) in
        let third : c3 ≡ front ++ from l c2 = q ∙ ap (λ x. before l x ++ from l c2) (rest_below l z es c2 r) in
        let low_part : below l c3 ≡ front =
        ap (below l) third ∙ filter-append (λ x. int_lt x.lo l) front (from l c2)
        ∙ ap (λ x. x ++ below l (from l c2)) (below_all l front front_below) ∙ ap (λ x. front ++ x) (below_from l l c2 (omega (arith, ints))) ∙ append-nil front in
        let high_part : from (z +ℤ pos 1) c3 ≡ from (z +ℤ pos 1) c2 =
        ap (from (z +ℤ pos 1)) third ∙ filter-append (λ x. int_le (z +ℤ pos 1) x.lo) front (from l c2)
        ∙ ap (λ x. x ++ from (z +ℤ pos 1) (from l c2)) (from_none (z +ℤ pos 1) front (more_below l (z +ℤ pos 1) front (omega (arith, ints)) front_below)) ∙ from_from l (z +ℤ pos 1) c2 (omega (arith, ints)) in
        let joined : c4 ≡ before l es ++ from (z +ℤ pos 1) c2 = t ∙ ap (λ x. x ++ from (z +ℤ pos 1) c3) (low_part ∙ before_below l low high es s c) ∙ ap (λ x. before l es ++ x) high_part in
        record {
          cut = record { above = from (z +ℤ pos 1) c2; like = r.like.alike; joined = joined };
          kept = λ e i u. subst (λ xs. Contains xs e) (sym joined) (Contains-append_right (before l es) (from (z +ℤ pos 1) c2) e (r.like.kept e i u));
        }

    -- an entry is inserted at l
    module _ (l z : ℤ) (v : V) (w : l ≤ℤ z) (c2 : List (Entry V)) (r : IsEntrySet eq (entry l z v) es c2) where
      abbrev p : Entry V
      p = entry l z v

      pub set_entry : StartsAscend low high c2 → (c3 c4 : List (Entry V)) → c3 ≡ before l (below l c2) ++ from l c2 → c4 ≡ below (l +ℤ pos 1) c3 ++ from (z +ℤ pos 1) c3 → IsEntryBetween eq p es c4
      set_entry s2 c3 c4 q t =
          let front = before l (below l es) in
          let above = from (z +ℤ pos 1) c2 in
          let front_below = starts_before l (below l es) (canonical_below l low high es s c) in
          let third : c3 ≡ front ++ p ∷ from (l +ℤ pos 1) c2 = q ∙ ap (λ x. before l x ++ from l c2) r.below ∙ ap (λ x. front ++ x) (from_at l low high p c2 s2 r.here).1 in
          let low_part : below (l +ℤ pos 1) c3 ≡ front ++ p ∷ [] =
          ap (below (l +ℤ pos 1)) third ∙ filter-append (λ x. int_lt x.lo (l +ℤ pos 1)) front (p ∷ from (l +ℤ pos 1) c2)
          ∙ ap (λ x. x ++ below (l +ℤ pos 1) (p ∷ from (l +ℤ pos 1) c2)) (below_all (l +ℤ pos 1) front (more_below l (l +ℤ pos 1) front (omega (arith, ints)) front_below))
          ∙ ap (λ x. front ++ x) (below_takes (l +ℤ pos 1) p (from (l +ℤ pos 1) c2) (omega (arith, ints)) ∙ ap (λ x. p ∷ x) (below_from (l +ℤ pos 1) (l +ℤ pos 1) c2 (omega (arith, ints)))) in
          let high_part : from (z +ℤ pos 1) c3 ≡ above =
          ap (from (z +ℤ pos 1)) third ∙ filter-append (λ x. int_le (z +ℤ pos 1) x.lo) front (p ∷ from (l +ℤ pos 1) c2)
          ∙ ap (λ x. x ++ from (z +ℤ pos 1) (p ∷ from (l +ℤ pos 1) c2)) (from_none (z +ℤ pos 1) front (more_below l (z +ℤ pos 1) front (omega (arith, ints)) front_below))
          ∙ from_skips (z +ℤ pos 1) p (from (l +ℤ pos 1) c2) (omega (arith, ints)) ∙ from_from (l +ℤ pos 1) (z +ℤ pos 1) c2 (omega (arith, ints)) in
          record {
            above = above;
            like = r.like;
            put = t ∙ ap (λ x. x ++ from (z +ℤ pos 1) c3) low_part ∙ ap (λ x. (front ++ p ∷ []) ++ x) high_part ∙ append_assoc front (p ∷ []) above
                ∙ ap (λ x. x ++ p ∷ above) (before_below l low high es s c);
          }

  -- the last entry that starts below l is extended
  module _ (low high : ℤ) (es : List (Entry V)) (s : StartsAscend low high es) where
    -- the last entry that starts below l starts at f
    pub record IsLeftAt (l f : ℤ) : Type 0 where
      pub of : Entry V
      pub found : start_at f es ≡ Some of
      pub under : f <ℤ l
      pub parts : below l es ≡ below f es ++ of ∷ []

    pub left_at : {T : Type 0} (rank : T → ℤ) (l f : ℤ) (predecessor : Option (RangeEntry T Bool)) → IsPredecessor l (below l es) (option_map (shown_ends rank) predecessor) → option_map (λ x. rank x.start) predecessor ≡ Some f → IsLeftAt l f
    left_at {T} rank l f None i q = cc
    left_at {T} rank l f (Some x) i q = by_last (last_below l es) refl i
      where
        by_last : (o : Option (Entry V)) → last_below l es ≡ o → Some (shown_ends rank x) ≡ option_map range_in o → IsLeftAt l f
        by_last None p r = cc
        by_last (Some e) p r =
            let t = last_at l low high e es s p in
            let ends : shown_ends rank x ≡ range_in e = cc in
            let start : rank x.start ≡ f = cc in
            let here : e.lo ≡ f = sym (ap (λ (y : ℤ × ℤ). y.0) ends) ∙ start in
            let up = t.starts in
            record {
              of = e;
              found = ap (λ k. start_at k es) (sym here) ∙ last_there l high e es t;
              under = omega (arith, ints);
              parts = below_last l high e es t ∙ ap (λ xs. xs ++ e ∷ []) (sym (front_last l high e es t) ∙ ap (λ k. below k es) here);
            }

    pub extended : (l f z : ℤ) (i : IsLeftAt l f) (c1 c2 c3 : List (Entry V)) → AreOtherEntriesKept eq (l -ℤ pos 1) z es c1 → c2 ≡ below l c1 ++ from (z +ℤ pos 1) c1 → c3 ≡ with_end f z c2 → IsEntryExtended eq f z es c3
    extended l f z i c1 c2 c3 r q t =
        let e = i.of in
        let here = (from_at f low high e es s i.found).0 in
        let above = from (z +ℤ pos 1) c1 in
        let parts : c2 ≡ below f es ++ e ∷ above = q ∙ ap (λ x. x ++ above) (rest_below l z es c1 r ∙ i.parts) ∙ append_assoc (below f es) (e ∷ []) above in
        record {
          of = e;
          found = i.found;
          above = above;
          like = r.like;
          put = t ∙ ap (with_end f z) parts ∙ end_put f z e (below f es) above here (starts_below f es) ∙ ap (λ x. below f es ++ entry x z e.value ∷ above) here;
        }
