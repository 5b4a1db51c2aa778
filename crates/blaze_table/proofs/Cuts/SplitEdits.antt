-- The edits that split a list at a key.
use Rattle.blaze_table.proofs.Words.{◌≡◌, Bool, ℤ, pos, ◌-ℤ◌, ◌≤ℤ◌, ◌<ℤ◌, true, List, [], ◌∷◌, ◌++◌, None, refl, ◌∙◌, sym, subst, ap, arith, IsEquivalence, Result, Ok, Err, IfOk, OnOk, IsSome, int_lt, int_le, option_map, ints, append-nil, append_assoc, filter-append, CountedEntries, uncounted, range_in, StartsAscend, below, from, last_below, start_at, with_entry, without, with_end, IsCloneInserted, StartsBelow, below_all, below_none, below_skips, from_all, from_none, from_takes, more_below, none_from_map, Entry, entry, IsCanonical, ClonesAreAlike, IsBelow, IsSplitOf, below_more}
use Rattle.blaze_table.proofs.Neighbours.Holders.{Holder, is_holder, put_inside, starts_behind, end_moved}
use Rattle.blaze_table.proofs.Paints.Placing.{put_back, put_there}
use Rattle.blaze_table.proofs.Cuts.Splits.{no_last, no_last_from}
use Rattle.blaze_table.proofs.Cuts.CutEdits.{above_from}
use Rattle.blaze_table.proofs.Cuts.Splitting.{split_here, split_between}

module _ {V : Type 0} where
  below_front : (k : ℤ) (xs ys : List (Entry V)) → StartsBelow k xs → below k ys ≡ [] → below k (xs ++ ys) ≡ xs
  below_front k xs ys u n = filter-append (λ e. int_lt e.lo k) xs ys ∙ ap (λ l. l ++ below k ys) (below_all k xs u) ∙ ap (λ l. xs ++ l) n ∙ append-nil xs

  from_back : (k : ℤ) (xs ys : List (Entry V)) → StartsBelow k xs → from k ys ≡ ys → from k (xs ++ ys) ≡ ys
  from_back k xs ys u n = filter-append (λ e. int_le k e.lo) xs ys ∙ ap (λ l. l ++ from k ys) (from_none k xs u) ∙ n

module _ {V : Type 0} (eq : V → V → Bool) (laws : IsEquivalence eq) (k high : ℤ) (es : List (Entry V)) where
  module _ (s z : ℤ) (h : Holder eq k high es s z) where
    pub starts_under : s <ℤ k
    starts_under = let l = h.lo in let u = h.starts in omega (arith, ints)

    under : IsBelow k h.front
    under = let u = h.starts in below_more h.of.lo k h.front (omega (arith, ints)) h.front_ends

    -- the entry ends below the key: nothing is cut
    pub split_behind : z <ℤ k → IsSplitOf eq k es (below k es) (from k es)
    split_behind u =
        let r = h.hi in
        let l = starts_under in
        let at_lo = h.lo in
        let xs = h.front ++ h.of ∷ [] in
        let parts : es ≡ xs ++ h.back = h.parts ∙ sym (append_assoc h.front (h.of ∷ []) h.back) in
        let starts = starts_behind k h.front h.of (more_below h.of.lo k h.front (omega (arith, ints)) h.front_starts) (omega (arith, ints)) in
        let low : below k es ≡ xs = ap (below k) parts ∙ below_front k xs h.back starts (below_none k k high h.back (omega (arith, ints)) h.back_starts) in
        let up : from k es ≡ h.back = ap (from k) parts ∙ from_back k xs h.back starts (from_all k k high h.back (omega (arith, ints)) h.back_starts) in
        subst (λ x. IsSplitOf eq k es x (from k es)) (sym low) (subst (λ x. IsSplitOf eq k es xs x) (sym up) (subst (λ x. IsSplitOf eq k x xs h.back) (sym parts)
        (split_between eq laws k xs (below_behind h.front under) h.back h.here.2 (above_from k (k -ℤ pos 1) high h.back (omega (arith, ints)) h.back_starts))))
      where
        below_behind : (xs : List (Entry V)) → IsBelow k xs → IsBelow k (xs ++ h.of ∷ [])
        below_behind [] b = let r = h.hi in (omega (arith, ints), tt)
        below_behind (x ∷ xs) b = (b.0, below_behind xs b.1)

    -- The key is inside the entry. A clone is inserted at the key, the list is split, and the entry is shortened below
    -- the key.
    pub split_inside : (is_clone : V → V → Type 0) → ClonesAreAlike is_clone eq → k ≤ℤ z → (y : ℤ) (mid below_new from_new : List (Entry V)) → y ≡ k -ℤ pos 1
        → IsCloneInserted is_clone s k es mid → below_new ≡ with_end s y (below k mid) → from_new ≡ from k mid → IsSplitOf eq k es below_new from_new
    split_inside is_clone alike u y mid below_new from_new t i m f =
        let r = h.hi in
        let at_lo = h.lo in
        let l = starts_under in
        let one = is_holder eq k high es s z h i.found in
        let p = entry k h.of.hi i.value in
        let xs = h.front ++ h.of ∷ [] in
        let starts = starts_behind k h.front h.of (more_below h.of.lo k h.front (omega (arith, ints)) h.front_starts) (omega (arith, ints)) in
        let put : mid ≡ xs ++ p ∷ h.back = i.inserted ∙ ap (λ (x : Entry V). with_entry (entry k x.hi i.value) es) (sym one) ∙ put_inside eq k high es s z h k l u p refl ∙ sym (append_assoc h.front (h.of ∷ []) (p ∷ h.back)) in
        let none : below k (p ∷ h.back) ≡ [] = below_skips k p h.back (omega (arith, ints)) ∙ below_none k k high h.back (omega (arith, ints)) h.back_starts in
        let all : from k (p ∷ h.back) ≡ p ∷ h.back = from_takes k p h.back (omega (arith, ints)) ∙ ap (λ x. p ∷ x) (from_all k k high h.back (omega (arith, ints)) h.back_starts) in
        let low : below_new ≡ h.front ++ entry h.of.lo (k -ℤ pos 1) h.of.value ∷ [] =
        m ∙ ap (λ x. with_end s y (below k x)) put ∙ ap (with_end s y) (below_front k xs (p ∷ h.back) starts none) ∙ end_moved eq k high es s z h y [] ∙ ap (λ x. h.front ++ entry h.of.lo x h.of.value ∷ []) t in
        let up : from_new ≡ p ∷ h.back = f ∙ ap (from k) put ∙ from_back k xs (p ∷ h.back) starts all in
        let like : eq h.of.value i.value ≡ true = subst (λ (x : Entry V). eq x.value i.value ≡ true) (sym one) (alike i.of.value i.value i.clone) in
        subst (λ x. IsSplitOf eq k es x from_new) (sym low) (subst (λ x. IsSplitOf eq k es (h.front ++ entry h.of.lo (k -ℤ pos 1) h.of.value ∷ []) x) (sym up)
        (subst (λ x. IsSplitOf eq k x (h.front ++ entry h.of.lo (k -ℤ pos 1) h.of.value ∷ []) (p ∷ h.back)) (sym h.parts)
        (split_here eq laws k h.front under h.of h.back i.value (omega (arith, ints)) (omega (arith, ints)) like)))

    -- the clone exists and can be removed again
    pub clone_there : (is_clone : V → V → Type 0) (s1 s2 : CountedEntries V) → IsCloneInserted is_clone s k es s1.entries → s2 ≡ s1 → IsSome (start_at k s2.entries)
    clone_there is_clone s1 s2 i q = put_there (entry k i.of.hi i.value) es s2.entries (ap (λ (s : CountedEntries V). s.entries) q ∙ i.inserted)

  -- no entry starts below the key
  pub split_above : (low : ℤ) → StartsAscend low high es → IsCanonical eq es → None ≡ option_map range_in (last_below k es) → IsSplitOf eq k es (below k es) (from k es)
  split_above low a c p =
      let none : last_below k es ≡ None = none_from_map range_in (last_below k es) p in
      let starts = no_last_from k low high es a none in
      subst (λ x. IsSplitOf eq k es x (from k es)) (sym (no_last k low high es a none))
      (subst (λ x. IsSplitOf eq k es [] x) (sym (from_all k k high es (omega (arith, ints)) starts))
      (split_between eq laws k [] tt es c (above_from k (k -ℤ pos 1) high es (omega (arith, ints)) starts)))

  -- the result of a split without a clone
  pub if_split : {O E : Type 0} (counted : O → CountedEntries V) (r : Result O E) (old new : CountedEntries V) → old.entries ≡ es → IsSplitOf eq k es (below k es) (from k es)
      → OnOk r (new ≡ record old { entries = below k old.entries }) → IfOk r (λ o. counted o ≡ uncounted (from k old.entries)) → IfOk r (λ o. IsSplitOf eq k es new.entries (counted o).entries)
  if_split counted (Err x) old new q w b f = tt
  if_split counted (Ok o) old new q w b f =
      let low : new.entries ≡ below k es = ap (λ (s : CountedEntries V). s.entries) b ∙ ap (below k) q in
      let up : (counted o).entries ≡ from k es = ap (λ (s : CountedEntries V). s.entries) f ∙ ap (from k) q in
      subst (λ x. IsSplitOf eq k es x (counted o).entries) (sym low) (subst (λ x. IsSplitOf eq k es (below k es) x) (sym up) w)

-- an inserted entry is removed again, and nothing was counted
pub clone_removed : {V : Type 0} (is_clone : V → V → Type 0) (s k : ℤ) (s0 s1 s2 s3 : CountedEntries V) → start_at k s0.entries ≡ None → IsCloneInserted is_clone s k s0.entries s1.entries
    → s1 ≡ record s0 { entries = s1.entries } → s2 ≡ s1 → s3 ≡ record s2 { entries = without k s2.entries } → s3 ≡ s0
clone_removed {V} is_clone s k s0 s1 s2 s3 none i same q r =
    r ∙ ap (λ (t : CountedEntries V). record t { entries = without k t.entries }) q
    ∙ ap (λ (t : CountedEntries V). record t { entries = without k s1.entries }) same
    ∙ ap (λ es. record s0 { entries = es }) (put_back (entry k i.of.hi i.value) s0.entries s1.entries (without k s1.entries) none i.inserted refl)
