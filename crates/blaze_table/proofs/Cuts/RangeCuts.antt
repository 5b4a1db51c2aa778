-- A range of keys is removed, given the results of a walk without a value. What the edit requires of the list, and what
-- it counts.
use Rattle.blaze_table.proofs.Words.{◌≡◌, ℕ, ℤ, pos, ◌+ℤ◌, ◌≤ℤ◌, ◌<ℤ◌, Bool, true, false, cond, List, Option, Some, None, length, length-append, refl, ◌∙◌, subst, ap, arith, inl, inr, IsEquivalence, option_map, IfSome, IsSome, IsSomeAnd, int_lt, ints, lt_holds, not_both, CountedEntries, found_in, is_sought, range_in, shown_ends, shown_plan, StartsAscend, last_below, Plan, RangeEntry, IsCanonical, GoesOnAbove, IsEditPlan, Entry, tail_of, HasEditLookups, IsWalkOf, IsWorked, before, after, IsListWithoutRange, IsRangeTaken, IsTableCut, IsTable, IsCountedCut, keys_apart, length_as}
use Rattle.blaze_table.proofs.Cuts.Cutting.{cut_table}
use Rattle.blaze_table.proofs.Walks.Found.{last_held}
use Rattle.blaze_table.proofs.Walks.FewLooks.{counted}
use Rattle.blaze_table.proofs.Walks.Plans.{place_is}

module _ {V : Type 0} (eq : V → V → Bool) (sought : Option V) (free : sought ≡ None) (l h : ℤ) {T : Type 0} (rank : T → ℤ) (p : Plan T) (n : ℕ) (o : Option V)
    (es : List (Entry V)) (f : IsWalkOf eq (is_sought eq sought) l h es (shown_plan rank p) n o) where
  abbrev test : V → Bool
  test = is_sought eq sought

  none : (v : V) → test v ≡ false
  none v = ap (λ o. is_sought eq o v) free

  -- the range is joined with no entry, so its end does not change
  pub end_is : rank p.end ≡ h
  end_is = elim f.plan.end [
    | inl e ↦ e.0
    | inr j ↦ absurd (not_both (test j.next.value) j.like (none j.next.value))
  ]

  module _ (low high : ℤ) (w : l ≤ℤ h) (s : StartsAscend low high es) (c : IsCanonical eq es) where
    -- what the edit requires
    pub range_place : IsEditPlan rank eq l es p o
    range_place = place_is eq test l h w low high es s c rank p o f.plan (like (last_below l es) f.tail_value)
      where
        like : (x : Option (Entry V)) → IfSome x (λ e. h <ℤ e.hi → test e.value ≡ false → IsSomeAnd o (λ u. eq e.value u ≡ true)) → IfSome x (λ e. rank p.end <ℤ e.hi → IsSomeAnd o (λ u. eq e.value u ≡ true))
        like None i = tt
        like (Some e) i = λ u. i (omega (arith, ints, end_is)) (none e.value)

    -- the plan has a part above the range if an entry extends above it
    pub rest_above : IsSome p.tail → GoesOnAbove h es
    rest_above i = by_last (last_below (h +ℤ pos 1) es) refl p.tail f.plan.tail i
      where
        over : {X : Type 0} (e : Entry V) (b t : Bool) (x : Option (RangeEntry T X)) → option_map (shown_ends rank) x ≡ cond b (cond t None (Some (range_in e))) None → IsSome x → b ≡ true
        over e true t x m i = refl
        over e false t (Some x) m i = cc
        over e false t None m i = cc

        by_last : {X : Type 0} (q : Option (Entry V)) → last_below (h +ℤ pos 1) es ≡ q → (x : Option (RangeEntry T X)) → option_map (shown_ends rank) x ≡ tail_of h (option_map (found_in test) q) → IsSome x → GoesOnAbove h es
        by_last None q (Some x) m i = cc
        by_last None q None m i = cc
        by_last (Some e) q x m i =
            let up = lt_holds h e.hi (over e (int_lt h e.hi) (test e.value) x m i) in
            record { entry = e; here = last_held eq l h low high w es s c (h +ℤ pos 1) e q h (omega (arith, ints)) (omega (arith, ints, up)); above = up }

    -- the number of keys outside the range
    pub range_cut : (laws : IsEquivalence eq) (len : ℕ) (new : List (Entry V)) → IsTable eq low high len es → IsRangeTaken eq l (rank p.end) es new → IsTableCut eq low high n l h es new
    range_cut laws len new t k =
        let taken = subst (λ z. IsRangeTaken eq l z es new) end_is k in
        record { table = cut_table eq laws l h w es new c taken.cut low high len n t (omega (arith, ints, t.counted, f.keys_outside, keys_apart eq l h es w c)); taken = taken }

-- few lookups, and then the edit
pub counted_cut : {V : Type 0} (eq : V → V → Bool) (laws : IsEquivalence eq) (l h : ℤ) (old mid new : CountedEntries V) → HasEditLookups l h old mid → IsListWithoutRange eq l h mid.entries new.entries → IsWorked 1 0 mid new → IsCountedCut old new
counted_cut eq laws l h old mid new looked r work =
    let long = ap length r.joined ∙ length-append (before l mid.entries) r.above in
    counted l h old mid new looked 1 work (omega (arith, long, length_as eq laws (after h mid.entries) r.above r.like))
