-- The entries that share a key with a range, each cut to it, are the entries on the keys of the range; and their lengths are how
-- many keys of the range have a value.
use Rattle.range_map_blaze.proofs.Words.{◌≡◌, ℕ, zero, suc, ℤ, pos, negsuc, ◌+ℤ◌, ◌-ℤ◌, ◌≤ℤ◌, ◌<ℤ◌, Bool, List, [], ◌∷◌, refl, ◌∙◌, sym, ap, subst, Option, arith, IsEquivalence, ints, by_lt_z, nat_of-pos, pos_injective, nat_of, up_to, IsCanonical, IsRangeMap, left_with_right, keys_in, mapped_keys, ending_from, overlapping, Entry, entry, at, after, lengths_are_mapped, above_rest, at_in, at_under, at_over, one_if, canonical, one_per_run, above_after, canonical_after, IsWithin, one_range, within, cut_each, cut_to}
use Rattle.blaze_entries.specs.Count.{mapped}
use Rattle.range_map_blaze.proofs.GapsWithin.{up_to_takes, up_to_skips, up_to_none, keys_between}
use Rattle.range_map_blaze.proofs.Paints.Following.{IsOnward, whole_first, within_next, within_over, onward_next, content_within, within_chosen}

-- no key is between an end and a start above it
pub none_between : {V : Type 0} (l h : ℤ) (content : ℤ → Option V) → h <ℤ l → mapped_keys l h content ≡ 0
unfolding mapped
none_between l h content u = by_width (h -ℤ l +ℤ pos 1) refl
  where
    by_width : (z : ℤ) → z ≡ h -ℤ l +ℤ pos 1 → mapped content l (nat_of z) ≡ 0
    by_width (pos zero) p = refl
    by_width (pos (suc n)) p = absurd (omega (arith, ints))
    by_width (negsuc n) p = refl

-- as many of the n keys from a on have a value, where the two contents are the same there
same_count : {V : Type 0} (c d : ℤ → Option V) (h a : ℤ) (n : ℕ) → (a +ℤ pos n) ≤ℤ (h +ℤ pos 1) → ((k : ℤ) → a ≤ℤ k → k ≤ℤ h → c k ≡ d k) → mapped c a n ≡ mapped d a n
unfolding mapped
same_count c d h a zero w s = refl
same_count c d h a (suc n) w s =
    omega (arith, ap one_if (s a (omega (arith, ints)) (omega (arith, ints))), same_count c d h (a +ℤ pos 1) n (omega (arith, ints)) (λ k l u. s k (omega (arith, ints)) u))

module _ {V : Type 0} (eq : V → V → Bool) where
  cut_are : (l h : ℤ) (es : List (Entry V)) → IsOnward eq l es → l ≤ℤ h → cut_each l h (up_to h es) ≡ within l h es
  cut_are l h [] o w = refl
  cut_are l h (e ∷ es) o w = by_lt_z h e.lo
      (λ u.
      let above = above_rest eq h e es (omega (arith, ints, o.canonical.0)) o.canonical in
      ap (cut_each l h) (up_to_skips h e es u ∙ up_to_none eq h es o.canonical.2 above) ∙ sym (within_over eq l h e es o w u))
      (λ u.
      ap (cut_each l h) (up_to_takes h e es u)
      ∙ ap (λ t. cut_to l h e ∷ t) (cut_are l h es (onward_next eq l h e es o) w)
      ∙ sym (within_next eq l h e es o w u))

  -- the entries that share a key with the range, each cut to it
  pub cut_is_within : (l h : ℤ) (es : List (Entry V)) → IsCanonical eq es → l ≤ℤ h → cut_each l h (overlapping l h es) ≡ within l h es
  cut_is_within l h es c w =
      let whole = whole_first eq l h es c in
      cut_are l h (ending_from l es) whole.onward w ∙ whole.same

  -- an empty range has nothing
  pub none_within : (laws : IsEquivalence eq) (low high l h : ℤ) (es : List (Entry V)) → h <ℤ l → IsWithin eq low high l h es []
  none_within laws low high l h es u = record {
    range_map = record { runs = one_per_run eq laws [] tt; keys = tt };
    inside = λ k a b. absurd (omega (arith, ints));
    below = λ k a. refl;
    above = λ k a. refl;
  }

  module _ (laws : IsEquivalence eq) (low high l h : ℤ) (es : List (Entry V)) (r : IsRangeMap eq low high es) where
    pub is_within : IsWithin eq low high l h es (within l h es)
    is_within =
        let c = canonical eq laws es r.runs in
        let d = canonical_after eq (l -ℤ pos 1) es c in
        let content : (k : ℤ) → at (within l h es) k ≡ left_with_right (at es k) (at (one_range l h) k) = λ k. content_within eq laws low high l h es k c d in
        let one : Entry (Unit {0}) = entry l h tt in
        record {
          range_map = (within_chosen eq laws low high l h es r).range_map;
          inside = λ k a b. content k ∙ ap (left_with_right (at es k)) (at_in one [] k a b);
          below = λ k a. content k ∙ ap (left_with_right (at es k)) (at_under one [] k a);
          above = λ k a. content k ∙ ap (left_with_right (at es k)) (at_over one [] k a);
        }

    -- their lengths are how many keys of the range have a value
    pub keys_are_mapped : l ≤ℤ h → keys_in (within l h es) ≡ pos (mapped_keys l h (at es))
    keys_are_mapped w =
        let d = canonical_after eq (l -ℤ pos 1) es (canonical eq laws es r.runs) in
        let n = nat_of (h -ℤ l +ℤ pos 1) in
        let wide : pos n ≡ h -ℤ l +ℤ pos 1 = nat_of-pos (h -ℤ l +ℤ pos 1) (omega (arith, ints)) in
        lengths_are_mapped eq laws l h (within l h es) (record {
          runs = is_within.range_map.runs;
          keys = keys_between eq l h (after (l -ℤ pos 1) es) d (above_after (l -ℤ pos 1) es);
        })
        ∙ ap pos (same_count (at (within l h es)) (at es) h l n (omega (arith, ints, wide)) is_within.inside)

    -- the entries that share a key with the range, each cut to it
    pub within_made : l ≤ℤ h → (os : List (Entry V)) → os ≡ overlapping l h es → IsWithin eq low high l h es (cut_each l h os)
    within_made w os is =
        subst (IsWithin eq low high l h es) (sym (ap (cut_each l h) is ∙ cut_is_within l h es (canonical eq laws es r.runs) w)) is_within

    -- a number that is their lengths
    pub count_is_mapped : l ≤ℤ h → (n : ℕ) → pos n ≡ keys_in (within l h es) → n ≡ mapped_keys l h (at es)
    count_is_mapped w n p = pos_injective n (mapped_keys l h (at es)) (p ∙ keys_are_mapped w)
