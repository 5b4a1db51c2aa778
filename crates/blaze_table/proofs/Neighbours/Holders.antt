-- The last entry that starts below a key, with the entries before and after it: lookups and edits at its start.
use Rattle.blaze_table.proofs.Words.{◌≡◌, Bool, ℤ, pos, ◌+ℤ◌, ◌≤ℤ◌, ◌<ℤ◌, List, [], ◌∷◌, ◌++◌, Option, Some, None, refl, ◌∙◌, sym, subst, ap, arith, IsSome, option_map, ints, append_assoc, range_in, StartsAscend, last_below, start_at, with_entry, without, with_end, by_order, start_none, StartsBelow, more_below, IsApart, IsCanonical, Entry, entry, IsLastBelow, IsBelow}
use Rattle.blaze_entries.proofs.EditLists.{start_skips, end_put}
use Rattle.blaze_table.proofs.Neighbours.Growing.{found_there}
use Rattle.blaze_table.proofs.Cuts.Splits.{last_at, canonical_part, ends_below}

module _ {V : Type 0} where
  -- an insertion after the entries that start below it
  pub with_entry-between : (p : Entry V) (b high : ℤ) (xs ys : List (Entry V)) → StartsBelow p.lo xs → p.lo <ℤ b → StartsAscend b high ys → with_entry p (xs ++ ys) ≡ xs ++ p ∷ ys
  with_entry-between p b high [] [] u l s = refl
  with_entry-between p b high [] (y ∷ ys) u l s = by_order p.lo y.lo
      (λ o q r. rw q refl)
      (λ o q r. absurd (omega (arith, ints, s.0)))
      (λ o q r. absurd (omega (arith, ints, s.0)))
  with_entry-between p b high (x ∷ xs) ys u l s = by_order p.lo x.lo
      (λ o q r. absurd (omega (arith, ints, u.0)))
      (λ o q r. absurd (omega (arith, ints, u.0)))
      (λ o q r. rw q (ap (λ t. x ∷ t) (with_entry-between p b high xs ys u.1 l s)))

  pub without-between : (k : ℤ) (e : Entry V) (xs ys : List (Entry V)) → e.lo ≡ k → StartsBelow k xs → without k (xs ++ e ∷ ys) ≡ xs ++ ys
  without-between k e [] ys p u = by_order k e.lo (λ o q r. absurd (omega (arith, ints))) (λ o q r. rw r refl) (λ o q r. absurd (omega (arith, ints)))
  without-between k e (x ∷ xs) ys p u = by_order k x.lo
      (λ o q r. absurd (omega (arith, ints, u.0)))
      (λ o q r. absurd (omega (arith, ints, u.0)))
      (λ o q r. rw r (ap (λ t. x ∷ t) (without-between k e xs ys p u.1)))

  -- no entry starts at a key between entries
  pub none-between : (k b high : ℤ) (xs ys : List (Entry V)) → StartsBelow k xs → k <ℤ b → StartsAscend b high ys → start_at k (xs ++ ys) ≡ None
  none-between k b high [] ys u l s = start_none k b high ys l s
  none-between k b high (x ∷ xs) ys u l s = start_skips k x (xs ++ ys) (λ q. omega (arith, ints, u.0)) ∙ none-between k b high xs ys u.1 l s

  pub starts_behind : (k : ℤ) (xs : List (Entry V)) (e : Entry V) → StartsBelow k xs → e.lo <ℤ k → StartsBelow k (xs ++ e ∷ [])
  starts_behind k [] e u l = (l, tt)
  starts_behind k (x ∷ xs) e u l = (u.0, starts_behind k xs e u.1 l)

-- entries apart from a previous one start above its end
pub starts_over : {V : Type 0} (eq : V → V → Bool) (h high : ℤ) (e : Entry V) (ys : List (Entry V)) → IsApart eq e ys → StartsAscend h high ys → StartsAscend (e.hi +ℤ pos 1) high ys
starts_over eq h high e [] r t = tt
starts_over eq h high e (y ∷ ys) r t = (omega (arith, ints, r.0), t.1, t.2)

module _ {V : Type 0} (eq : V → V → Bool) (b high : ℤ) (es : List (Entry V)) where
  -- the last entry that starts below b starts at s and ends at z
  pub record Holder (s z : ℤ) : Type 0 where
    pub of : Entry V
    pub last : last_below b es ≡ Some of
    pub lo : of.lo ≡ s
    pub hi : of.hi ≡ z
    pub front : List (Entry V)
    pub back : List (Entry V)
    pub parts : es ≡ front ++ of ∷ back
    pub starts : of.lo <ℤ b
    pub front_starts : StartsBelow of.lo front
    pub front_ends : IsBelow of.lo front
    pub here : IsCanonical eq (of ∷ back)
    pub back_starts : StartsAscend b high back
    pub back_over : StartsAscend (of.hi +ℤ pos 1) high back

  pub entry_containing : (low s z : ℤ) → StartsAscend low high es → IsCanonical eq es → IsLastBelow b s z es → Holder s z
  entry_containing low s z a c p = by_last (last_below b es) refl p
    where
      by_last : (o : Option (Entry V)) → last_below b es ≡ o → Some (s, z) ≡ option_map range_in o → Holder s z
      by_last None q p = cc
      by_last (Some e) q p =
          let ends : range_in e ≡ (s, z) = cc in
          let i = last_at b low high e es a q in
          let whole = subst (IsCanonical eq) i.parts c in
          let here = canonical_part eq i.front (e ∷ i.back) whole in
          record {
            of = e;
            last = q;
            lo = ap (λ (t : ℤ × ℤ). t.0) ends;
            hi = ap (λ (t : ℤ × ℤ). t.1) ends;
            front = i.front;
            back = i.back;
            parts = i.parts;
            starts = i.starts;
            front_starts = i.front_below;
            front_ends = ends_below eq i.front e i.back whole;
            here = here;
            back_starts = i.back_from;
            back_over = starts_over eq b high e i.back here.1 i.back_from;
          }

  module _ (s z : ℤ) (h : Holder s z) where
    pub there : start_at s es ≡ Some h.of
    there = ap (start_at s) h.parts ∙ ap (λ k. start_at k (h.front ++ h.of ∷ h.back)) (sym h.lo) ∙ found_there h.of.lo h.of h.front h.back refl h.front_starts

    pub present : IsSome (start_at s es)
    present = subst (λ o. IsSome o) (sym there) refl

    pub is_holder : {e : Entry V} → start_at s es ≡ Some e → h.of ≡ e
    is_holder q = one (start_at s es) there q
      where
        one : {e f : Entry V} (o : Option (Entry V)) → o ≡ Some e → o ≡ Some f → e ≡ f
        one o p q = cc

    -- at a key that it contains, and that is not its start
    module _ (k : ℤ) (l : s <ℤ k) (u : k ≤ℤ z) where
      parts_before : es ≡ (h.front ++ h.of ∷ []) ++ h.back
      parts_before = h.parts ∙ sym (append_assoc h.front (h.of ∷ []) h.back)

      starts_before : StartsBelow k (h.front ++ h.of ∷ [])
      starts_before =
          let at_lo = h.lo in
          starts_behind k h.front h.of (more_below h.of.lo k h.front (omega (arith, ints)) h.front_starts) (omega (arith, ints))

      pub absent_inside : start_at k es ≡ None
      absent_inside =
          let at_hi = h.hi in
          ap (start_at k) parts_before ∙ none-between k (h.of.hi +ℤ pos 1) high (h.front ++ h.of ∷ []) h.back starts_before (omega (arith, ints)) h.back_over

      pub put_inside : (p : Entry V) → p.lo ≡ k → with_entry p es ≡ h.front ++ h.of ∷ p ∷ h.back
      put_inside p q =
          let at_hi = h.hi in
          ap (with_entry p) parts_before
          ∙ with_entry-between p (h.of.hi +ℤ pos 1) high (h.front ++ h.of ∷ []) h.back (subst (λ x. StartsBelow x (h.front ++ h.of ∷ [])) (sym q) starts_before) (omega (arith, ints)) h.back_over
          ∙ append_assoc h.front (h.of ∷ []) (p ∷ h.back)

    pub end_moved : (y : ℤ) (ys : List (Entry V)) → with_end s y (h.front ++ h.of ∷ ys) ≡ h.front ++ entry h.of.lo y h.of.value ∷ ys
    end_moved y ys = ap (λ k. with_end k y (h.front ++ h.of ∷ ys)) (sym h.lo) ∙ end_put h.of.lo y h.of h.front ys refl h.front_starts
