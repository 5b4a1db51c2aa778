-- The last entry that starts below a key: found by its start, and shortened below the key.
use Rattle.blaze_table.proofs.Words.{◌≡◌, ℤ, pos, ◌-ℤ◌, ◌≤ℤ◌, ◌<ℤ◌, Bool, List, [], ◌∷◌, ◌++◌, Option, Some, None, refl, ◌∙◌, sym, ap, arith, int_lt, int_le, option_map, ints, subst, append-nil, append_assoc, filter-append, shown_found, range_in, shown_ends, RangeEntry, StartsAscend, below, from, last_below, start_at, with_end, by_order, StartsBelow, below_takes, below_skips, below_all, below_none, from_skips, from_none, from_all, more_below, halves, Entry, entry, IsCanonical, IsPredecessor, before, IsBelow, before_cuts, before_keeps, below_more, before_past}
use Rattle.blaze_table.proofs.Cuts.Splits.{LastAt, last_at, no_last, ends_below}
use Rattle.blaze_entries.proofs.EditLists.{end_put}

module _ {V : Type 0} where
  pub found_there : (k : ℤ) (e : Entry V) (xs ys : List (Entry V)) → e.lo ≡ k → StartsBelow k xs → start_at k (xs ++ e ∷ ys) ≡ Some e
  found_there k e [] ys p h = by_order k e.lo (λ o q r. absurd (omega (arith, ints))) (λ o q r. rw r refl) (λ o q r. absurd (omega (arith, ints)))
  found_there k e (x ∷ xs) ys p h = by_order k x.lo
      (λ o q r. absurd (omega (arith, ints, h.0)))
      (λ o q r. absurd (omega (arith, ints, h.0)))
      (λ o q r. rw r (found_there k e xs ys p h.1))

  module _ (k high : ℤ) (e : Entry V) (es : List (Entry V)) (r : LastAt k high e es) where
    pub below_last : below k es ≡ r.front ++ e ∷ []
    below_last = ap (below k) r.parts ∙ filter-append (λ x. int_lt x.lo k) r.front (e ∷ r.back)
        ∙ ap (λ l. l ++ below k (e ∷ r.back)) (below_all k r.front (more_below e.lo k r.front (omega (arith, ints, r.starts)) r.front_below))
        ∙ ap (λ l. r.front ++ l) (below_takes k e r.back r.starts)
        ∙ ap (λ l. r.front ++ e ∷ l) (below_none k k high r.back (omega (arith, ints)) r.back_from)

    pub front_last : below e.lo es ≡ r.front
    front_last = ap (below e.lo) r.parts ∙ filter-append (λ x. int_lt x.lo e.lo) r.front (e ∷ r.back)
        ∙ ap (λ l. l ++ below e.lo (e ∷ r.back)) (below_all e.lo r.front r.front_below)
        ∙ ap (λ l. r.front ++ l) (below_skips e.lo e r.back (omega (arith, ints)) ∙ below_none e.lo k high r.back (omega (arith, ints, r.starts)) r.back_from) ∙ append-nil r.front

    pub from_last : from k es ≡ r.back
    from_last = ap (from k) r.parts ∙ filter-append (λ x. int_le k x.lo) r.front (e ∷ r.back)
        ∙ ap (λ l. l ++ from k (e ∷ r.back)) (from_none k r.front (more_below e.lo k r.front (omega (arith, ints, r.starts)) r.front_below))
        ∙ from_skips k e r.back r.starts
        ∙ from_all k k high r.back (omega (arith, ints)) r.back_from

    pub last_there : start_at e.lo es ≡ Some e
    last_there = ap (start_at e.lo) r.parts ∙ found_there e.lo e r.front r.back refl r.front_below

-- the entry before a key is shortened below it
module _ {V : Type 0} (eq : V → V → Bool) (k low high : ℤ) (es : List (Entry V)) (s : StartsAscend low high es) (c : IsCanonical eq (below k es)) where
  pub record Ended (l z : ℤ) (o : Option (Entry V)) : Type 0 where
    pub found : Entry V
    pub is : o ≡ Some found
    pub lo : found.lo ≡ l
    pub hi : found.hi ≡ z

  pub ends_seen : (l z : ℤ) (o : Option (Entry V)) → Some (l, z) ≡ option_map range_in o → Ended l z o
  ends_seen l z None p = cc
  ends_seen l z (Some e) p =
      let q : range_in e ≡ (l, z) = cc in
      record { found = e; is = refl; lo = ap (λ (t : ℤ × ℤ). t.0) q; hi = ap (λ (t : ℤ × ℤ). t.1) q }

  module _ (l z : ℤ) (p : Some (l, z) ≡ option_map range_in (last_below k es)) where
    pub trim_starts : l <ℤ k
    trim_starts =
        let r = ends_seen l z (last_below k es) p in
        let i = last_at k low high r.found es s r.is in
        let u = i.starts in
        let q = r.lo in
        omega (arith, ints)

    front_ends : (r : Ended l z (last_below k es)) (i : LastAt k high r.found es) → IsBelow k i.front
    front_ends r i = below_more r.found.lo k i.front (omega (arith, ints, i.starts)) (ends_below eq i.front r.found [] (subst (IsCanonical eq) (below_last k high r.found es i) c))

    pub trim_short : z <ℤ k → es ≡ before k (below k es) ++ from k es
    trim_short u =
        let r = ends_seen l z (last_below k es) p in
        let i = last_at k low high r.found es s r.is in
        let end = r.hi in
        let b = below_last k high r.found es i in
        halves k low high es s ∙ ap (λ t. t ++ from k es)
        (b ∙ ap (λ t. i.front ++ t) (sym (before_keeps k r.found [] (omega (arith, ints)))) ∙ sym (before_past k i.front (r.found ∷ []) (front_ends r i)) ∙ sym (ap (before k) b))

    pub trim_long : (y : ℤ) → y ≡ k -ℤ pos 1 → k ≤ℤ z → with_end l y es ≡ before k (below k es) ++ from k es
    trim_long y q u =
        let r = ends_seen l z (last_below k es) p in
        let i = last_at k low high r.found es s r.is in
        let end = r.hi in
        let b = below_last k high r.found es i in
        let cut = entry r.found.lo (k -ℤ pos 1) r.found.value in
        let up = i.starts in
        ap (λ x. with_end x y es) (sym r.lo) ∙ ap (with_end r.found.lo y) i.parts ∙ end_put r.found.lo y r.found i.front i.back refl i.front_below
        ∙ ap (λ x. i.front ++ entry r.found.lo x r.found.value ∷ i.back) q ∙ sym (append_assoc i.front (cut ∷ []) i.back)
        ∙ sym (ap (λ t. t ++ from k es) (ap (before k) b ∙ before_past k i.front (r.found ∷ []) (front_ends r i) ∙ ap (λ t. i.front ++ t) (before_cuts k r.found [] (omega (arith, ints)) (omega (arith, ints)))) ∙ ap (λ t. (i.front ++ cut ∷ []) ++ t) (from_last k high r.found es i))

-- an entry that a lookup returned as the last below a key
pub left_is : {T V : Type 0} (rank : T → ℤ) (test : V → Bool) (l low high : ℤ) (es : List (Entry V)) → StartsAscend low high es → (predecessor : Option (RangeEntry T Bool))
    → option_map (shown_found rank) predecessor ≡ option_map (λ e. (e.lo, e.hi, test e.value)) (last_below l es) → IsPredecessor l (below l es) (option_map (shown_ends rank) predecessor)
left_is {T} {V} rank test l low high es s predecessor q = by_both predecessor (last_below l es) refl q
  where
    by_both : (predecessor : Option (RangeEntry T Bool)) (o : Option (Entry V)) → last_below l es ≡ o → option_map (shown_found rank) predecessor ≡ option_map (λ e. (e.lo, e.hi, test e.value)) o → IsPredecessor l (below l es) (option_map (shown_ends rank) predecessor)
    by_both None None p q = subst (λ xs. before l xs ≡ xs) (sym (no_last l low high es s p)) refl
    by_both None (Some e) p q = cc
    by_both (Some f) None p q = cc
    by_both (Some f) (Some e) p q =
        let found : shown_found rank f ≡ (e.lo, e.hi, test e.value) = cc in
        ap (λ (t : ℤ × ℤ × Bool). Some (t.0, t.1)) found ∙ sym (ap (option_map range_in) p)
