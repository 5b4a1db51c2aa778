-- A canonical list has the fewest entries.
use Rattle.blaze_entries.proofs.Words.{none_is_not, ◌≡◌, ℕ, ◌+◌, ◌≤◌, ℤ, pos, ◌+ℤ◌, ◌-ℤ◌, ◌≤ℤ◌, ◌<ℤ◌, Bool, cond, List, [], ◌∷◌, length, Option, Some, None, refl, sym, subst, arith, inl, inr, IsSome, int_lt, ints, by_lt_z, IsEquivalence, Entry, at, SameOption, SameContent, IsCanonical, HasEnd, IsDisjoint}
use Rattle.blaze_entries.specs.Canonical.{IsRunEnd}
use Rattle.blaze_entries.proofs.Alike.{same_along, same_trans, some_of_same}
use Rattle.blaze_entries.proofs.Canonical.Lookup.{IsAbove, IsAbove-from_apart, at_in, at_under, at_over, by_place, holds_in, at_clear}
use Rattle.blaze_entries.proofs.Canonical.Unique.{back}
use Rattle.blaze_entries.proofs.Canonical.Runs.{ends_are, end_along}

module _ {V : Type 0} (eq : V → V → Bool) (laws : IsEquivalence eq) where
  -- the number of ranges that end above b
  count_above : ℤ → List (Entry V) → ℕ
  count_above b [] = 0
  count_above b (e ∷ es) = cond (int_lt b e.hi) 1 0 + count_above b es

  count-le-length : (b : ℤ) (es : List (Entry V)) → count_above b es ≤ length es
  unfolding count_above
  count-le-length b [] = omega arith
  count-le-length b (e ∷ es) = grind (arith, count-le-length b es)

  count_less : (b h : ℤ) (es : List (Entry V)) → b ≤ℤ h → count_above h es ≤ count_above b es
  unfolding count_above
  count_less b h [] l = omega arith
  count_less b h (e ∷ es) l = grind (arith, ints, count_less b h es l)

  count_drop : (b h : ℤ) (es : List (Entry V)) → HasEnd es h → b <ℤ h → count_above h es + 1 ≤ count_above b es
  unfolding count_above
  count_drop b h [] m l = absurd m
  count_drop b h (e ∷ es) (inl p) l = grind (arith, ints, count_less b h es)
  count_drop b h (e ∷ es) (inr q) l = grind (arith, ints, count_drop b h es q l)

  within : (cs ds : List (Entry V)) (b : ℤ) → IsCanonical eq cs → IsAbove b cs → ((k : ℤ) → HasEnd cs k → HasEnd ds k) → length cs ≤ count_above b ds
  within [] ds b c a s = omega arith
  within (e ∷ es) ds b c a s =
      let i = within es ds e.hi c.2 (IsAbove-from_apart eq e es c.1) (λ k h. s k (inr h)) in
      let j = count_drop b e.hi ds (s e.hi (inl refl)) (omega (arith, ints, c.0)) in
      omega arith

  -- at each run end, an entry of a disjoint list ends
  end_in : (ds : List (Entry V)) (k : ℤ) → IsDisjoint ds → IsRunEnd eq (at ds) k → HasEnd ds k
  unfolding IsRunEnd
  end_in [] k d r = absurd (none_is_not {X = V} None refl r.0)
  end_in (e ∷ es) k d r = by_place e k
      (λ l h. by_lt_z k e.hi
      (λ m. absurd (r.1 (same_along eq (sym (at_in e es k l h)) (sym (at_in e es (k +ℤ pos 1) (omega (arith, ints)) (omega (arith, ints)))) (laws.refl e.value))))
      (λ m. inl (omega (arith, ints))))
      (λ l. inr (by_lt_z (k +ℤ pos 1) e.lo
      (λ m. end_in es k d.2 (end_along eq laws (at (e ∷ es)) (at es) k (at_under e es k l) (at_under e es (k +ℤ pos 1) m) r))
      (λ m. end_in es k d.2 (ends_before (at es k) (at es (k +ℤ pos 1)) (at_clear e es (k +ℤ pos 1) d.1 (holds_in e (k +ℤ pos 1) m (omega (arith, ints, d.0)))) (subst (λ o. IsSome o) (at_under e es k l) r.0)))))
      (λ h. inr (end_in es k d.2 (end_along eq laws (at (e ∷ es)) (at es) k (at_over e es k h) (at_over e es (k +ℤ pos 1) (omega (arith, ints))) r)))
    where
      ends_before : (a b : Option V) → b ≡ None → IsSome a → IsSome a × (¬ SameOption eq a b)
      ends_before None b p s = absurd (none_is_not {X = V} None refl s)
      ends_before (Some x) None p s = (s, λ q. q)
      ends_before (Some x) (Some y) p s = cc

  run_end_same : (L M : List (Entry V)) (k : ℤ) → SameContent eq L M → IsRunEnd eq (at L) k → IsRunEnd eq (at M) k
  unfolding IsRunEnd
  run_end_same L M k s r = (
    some_of_same eq (at L k) (at M k) (s k) r.0,
    λ q.
        r.1 (same_trans eq laws (at L k) (at M k) (at L (k +ℤ pos 1)) (s k) (same_trans eq laws (at M k) (at M (k +ℤ pos 1)) (at L (k +ℤ pos 1)) q (back eq laws L M s (k +ℤ pos 1)))),
  )

  -- a disjoint list with the same content has at least as many entries
  pub fewest : (C D : List (Entry V)) → IsCanonical eq C → IsDisjoint D → SameContent eq C D → length C ≤ length D
  fewest [] D c d s = omega arith
  fewest (e ∷ es) D c d s =
      let w = within (e ∷ es) D (e.lo -ℤ pos 1) c (omega (arith, ints)) (λ k h. end_in D k d (run_end_same (e ∷ es) D k s ((ends_are eq laws (e ∷ es) c k).0 h))) in
      omega (arith, count-le-length (e.lo -ℤ pos 1) D)
