-- The last or the first part of a list, taken by a split.
use Rattle.range_map_blaze.proofs.Words.{◌≡◌, ℤ, pos, ◌+ℤ◌, ◌≤ℤ◌, ◌<ℤ◌, Bool, true, false, cond, List, [], ◌∷◌, Option, Some, None, refl, ◌∙◌, sym, subst, ap, arith, ints, inl, inr, ◌⊎◌, ◌↔◌, IsTrue, int_le, by_lt_z, lt_true, lt_false, le_true, le_false, le_holds, Result, Ok, Err, IfOk, OnErr, Contains, IsEquivalence, Entry, at, SameOption, CountedEntries, same_along, canonical, chosen, cut_inside, cut_outside, value_in, left_with_right, one_range, cut_range_at, IsCanonical, IsRangeMap, IsRangeCut, AreKeysTaken}
use Rattle.blaze_entries.proofs.Paints.Kept.{by_first}
use Rattle.blaze_int.proofs.Comparisons.{le_fails}
use Rattle.blaze_entries.specs.Cut.{IsSplit, below_at, from_at}
use Rattle.blaze_table.specs.Sides.{AreKeptBelow, AreKeptFrom}
use Rattle.blaze_table.specs.Work.{IsRefused}
use Rattle.range_map_blaze.specs.FreeSides.{IsFreeAbove, IsFreeBelow}
use Rattle.range_map_blaze.specs.Pairs.{IsFirstPair, IsLastPair}
use Rattle.range_map_blaze.proofs.TakenBack.{keys_taken}

-- ---- whether a side is free, by the last or the first key

has_value : {V P : Type 0} (o : Option V) (v : V) → o ≡ Some v → o ≡ None → P
has_value o v p q = let is : Some v ≡ None = sym p ∙ q in cc

module _ {V : Type 0} (content : ℤ → Option V) (k : ℤ) (v : V) where
  pub free_above : IsLastPair content k v → (h : ℤ) (b : Bool) → b ≡ int_le k h → IsTrue b ↔ IsFreeAbove content h
  free_above p h true q = let in_it = le_holds k h (sym q) in ((λ t. λ j u. p.none_above j (omega (arith, ints))), (λ f. refl))
  free_above p h false q = ((λ t. cc), (λ f. has_value (content k) v p.here (f k (le_fails k h (sym q)))))

  pub free_below : IsFirstPair content k v → (l : ℤ) (b : Bool) → b ≡ int_le l k → IsTrue b ↔ IsFreeBelow content l
  free_below p l true q = let in_it = le_holds l k (sym q) in ((λ t. λ j u. p.none_below j (omega (arith, ints))), (λ f. refl))
  free_below p l false q = ((λ t. cc), (λ f. has_value (content k) v p.here (f k (le_fails l k (sym q)))))

pub room_above : (k h high : ℤ) (b : Bool) → b ≡ int_le k h → k ≤ℤ high → b ≡ false → h <ℤ high
room_above k h high b q u f = let over = le_fails k h (sym q ∙ f) in omega (arith, ints)

-- ---- the results of the calls

pub taken_to : {V E : Type 0} (eq : V → V → Bool) (low high l h : ℤ) (old left : List (Entry V)) (r : Result (CountedEntries V) E)
    → IsFreeAbove (at old) h → IfOk r (λ taken. (h : ℤ) → IsFreeAbove (at old) h → AreKeysTaken eq low high l h old left taken.entries) → IfOk r (λ taken. AreKeysTaken eq low high l h old left taken.entries)
taken_to eq low high l h old left (Ok taken) free t = t h free
taken_to eq low high l h old left (Err e) free t = tt

pub taken_since : {V E : Type 0} (eq : V → V → Bool) (low high l h : ℤ) (old left : List (Entry V)) (r : Result (CountedEntries V) E)
    → IsFreeBelow (at old) l → IfOk r (λ taken. (l : ℤ) → IsFreeBelow (at old) l → AreKeysTaken eq low high l h old left taken.entries) → IfOk r (λ taken. AreKeysTaken eq low high l h old left taken.entries)
taken_since eq low high l h old left (Ok taken) free t = t l free
taken_since eq low high l h old left (Err e) free t = tt

pub refused_by : {V A E : Type 0} (r : Result A E) (old new : CountedEntries V) → IsRefused old old → OnErr r (new ≡ old) → OnErr r (IsRefused old new)
refused_by (Ok x) old new none q = tt
refused_by (Err e) old new none q = subst (λ s. IsRefused old s) (sym q) none

-- ---- the parts

module _ {V : Type 0} (eq : V → V → Bool) where
  order_in : (es : List (Entry V)) (e : Entry V) → IsCanonical eq es → Contains es e → e.lo ≤ℤ e.hi
  order_in [] e d (k, u, q) = absurd (omega arith)
  order_in (f ∷ fs) e d c = by_first f fs e c (λ q. subst (λ (x : Entry V). x.lo ≤ℤ x.hi) q d.0) (λ m. order_in fs e d.2 m)

  -- an entry has a value at its start
  starts_free : {P : Type 0} (es : List (Entry V)) (e : Entry V) → IsCanonical eq es → Contains es e → at es e.lo ≡ None → P
  starts_free es e d c n = has_value (at es e.lo) e.value (value_in eq es e e.lo d c (omega (arith, ints)) (order_in es e d c)) n

module _ {V : Type 0} (eq : V → V → Bool) (laws : IsEquivalence eq) (low high l h : ℤ) (old left taken : List (Entry V)) (r : IsRangeMap eq low high old) where
  in_old : IsCanonical eq old
  in_old = canonical eq laws old r.runs

  module _ (s : IsSplit eq low high l old left taken) (kept : AreKeptBelow l old left) (free : IsFreeAbove (at old) h) where
    last_cut : (j : ℤ) → below_at l (at old) j ≡ cut_range_at l h (at old) j
    last_cut j = by_lt_z j l
        (λ u. ap (λ b. cond b (at old j) None) (lt_true j l u) ∙ sym (under u))
        (λ u. ap (λ b. cond b (at old j) None) (lt_false j l u) ∙ sym (over u))
      where
        under : j <ℤ l → cut_range_at l h (at old) j ≡ at old j
        under u = rw (le_false l j u) refl

        over : l ≤ℤ j → cut_range_at l h (at old) j ≡ None
        over u = by_lt_z h j
            (λ m. rw (le_true l j u, le_false j h m) (free j m))
            (λ m. rw (le_true l j u, le_true j h m) refl)

    last_content : (j : ℤ) → SameOption eq (at left j) (cut_range_at l h (at old) j)
    last_content j = same_along eq refl (last_cut j) (s.below_content j)

    last_kept : (e : Entry V) → Contains old e → (e.hi <ℤ l) ⊎ (h <ℤ e.lo) → Contains left e
    last_kept e m (inl u) = kept e m u
    last_kept e m (inr u) = starts_free eq old e in_old m (free e.lo u)

    last_at : (k : ℤ) → from_at l (at old) k ≡ left_with_right (at old k) (at (one_range l h) k)
    last_at k = by_lt_z k l
        (λ u. rw (le_false l k u) refl)
        (λ u. by_lt_z h k
        (λ m. rw (le_true l k u, le_false k h m) (free k m))
        (λ m. rw (le_true l k u, le_true k h m) refl))

    pub last_taken : AreKeysTaken eq low high l h old left taken
    last_taken = keys_taken eq laws low high l h old left taken
        (record {
          range_map = s.below_range_map;
          content = last_content;
          inside = cut_inside eq old left l h last_content;
          outside = cut_outside eq old left l h last_content;
          kept = last_kept;
        })
        (chosen s.from_range_map (λ k. same_along eq refl (last_at k) (s.from_content k)))

  module _ (n : ℤ) (next : n ≡ h +ℤ pos 1) (s : IsSplit eq low high n old taken left) (kept : AreKeptFrom n old left) (free : IsFreeBelow (at old) l) where
    first_cut : (j : ℤ) → from_at n (at old) j ≡ cut_range_at l h (at old) j
    first_cut j = by_lt_z h j
        (λ m. ap (λ b. cond b (at old j) None) (le_true n j (omega (arith, ints))) ∙ sym (over m))
        (λ m. ap (λ b. cond b (at old j) None) (le_false n j (omega (arith, ints))) ∙ sym (under m))
      where
        over : h <ℤ j → cut_range_at l h (at old) j ≡ at old j
        over m = by_lt_z j l
            (λ u. rw (le_false l j u) refl)
            (λ u. rw (le_true l j u, le_false j h m) refl)

        under : j ≤ℤ h → cut_range_at l h (at old) j ≡ None
        under m = by_lt_z j l
            (λ u. rw (le_false l j u) (free j u))
            (λ u. rw (le_true l j u, le_true j h m) refl)

    first_content : (j : ℤ) → SameOption eq (at left j) (cut_range_at l h (at old) j)
    first_content j = same_along eq refl (first_cut j) (s.from_content j)

    first_kept : (e : Entry V) → Contains old e → (e.hi <ℤ l) ⊎ (h <ℤ e.lo) → Contains left e
    first_kept e m (inl u) = let o = order_in eq old e in_old m in starts_free eq old e in_old m (free e.lo (omega (arith, ints)))
    first_kept e m (inr u) = kept e m (omega (arith, ints))

    chosen_at : (k : ℤ) → left_with_right (at old k) (at (one_range l h) k) ≡ below_at n (at old) k
    chosen_at k = by_lt_z h k
        (λ m. past m ∙ sym (ap (λ b. cond b (at old k) None) (lt_false k n (omega (arith, ints)))))
        (λ m. up_to m ∙ sym (ap (λ b. cond b (at old k) None) (lt_true k n (omega (arith, ints)))))
      where
        past : h <ℤ k → left_with_right (at old k) (at (one_range l h) k) ≡ None
        past m = by_lt_z k l
            (λ u. rw (le_false l k u) refl)
            (λ u. rw (le_true l k u, le_false k h m) refl)

        up_to : k ≤ℤ h → left_with_right (at old k) (at (one_range l h) k) ≡ at old k
        up_to m = by_lt_z k l
            (λ u. rw (le_false l k u) (sym (free k u)))
            (λ u. rw (le_true l k u, le_true k h m) refl)

    pub first_taken : AreKeysTaken eq low high l h old left taken
    first_taken = keys_taken eq laws low high l h old left taken
        (record {
          range_map = s.from_range_map;
          content = first_content;
          inside = cut_inside eq old left l h first_content;
          outside = cut_outside eq old left l h first_content;
          kept = first_kept;
        })
        (chosen s.below_range_map (λ k. same_along eq refl (sym (chosen_at k)) (s.below_content k)))
