-- The joints of a list after one more gap has a separate entry.
use Rattle.blaze_table.proofs.Words.{none_is_not, by_bool, not_both, ◌≡◌, ℤ, pos, ◌+ℤ◌, ◌-ℤ◌, ◌≤ℤ◌, ◌<ℤ◌, Bool, true, false, cond, List, Option, Some, None, refl, ◌∙◌, sym, subst, ap, arith, inl, inr, ◌⊎◌, IsSome, IsEquivalence, Contains, ints, by_lt_z, same_along, same_back, some_of_same, Entry, entry, at, SameOption, IsBeside, IsJoinedBut, IsJoint, IsNoted, IsClearFrom, holds_in, holds_under, holds_over}
use Rattle.blaze_entries.specs.Canonical.{IsRunStart}
use Rattle.blaze_table.proofs.Fills.Puts.{IsPut}

module _ {V : Type 0} (eq : V → V → Bool) (laws : IsEquivalence eq) (low high a b : ℤ) (w : V) (cur new : List (Entry V)) (order : a ≤ℤ b) (clear : IsClearFrom (at cur) a b) (p : IsPut low high (entry a b w) cur new) where
  pub new_in : (k : ℤ) → a ≤ℤ k → k ≤ℤ b → at new k ≡ Some w
  new_in k l u = p.content k ∙ ap (λ t. cond t (Some w) (at cur k)) (holds_in (entry a b w) k l u)

  pub new_under : (k : ℤ) → k <ℤ a → at new k ≡ at cur k
  new_under k l = p.content k ∙ ap (λ t. cond t (Some w) (at cur k)) (holds_under (entry a b w) k l)

  pub new_over : (k : ℤ) → b <ℤ k → at new k ≡ at cur k
  new_over k l = p.content k ∙ ap (λ t. cond t (Some w) (at cur k)) (holds_over (entry a b w) k l)

  -- a key with a value keeps it
  kept : (k : ℤ) → IsSome (at cur k) → at new k ≡ at cur k
  kept k s = by_lt_z k a (λ l. new_under k l) (λ l. by_lt_z b k (λ u. new_over k u) (λ u. absurd (none_is_not (at cur k) (clear k l u) s)))

  by_same : {P : Type 0} (o : Option V) → (SameOption eq o (Some w) → P) → ((SameOption eq o (Some w) → ⊥) → P) → P
  by_same None like unlike = unlike (λ s. s)
  by_same (Some x) like unlike = by_bool (eq x w) like (λ q. unlike (λ s. not_both (eq x w) s q))

  some_w : (o : Option V) → o ≡ Some w → IsSome o
  some_w o q = subst IsSome (sym q) refl

  module _ (t u : Bool) (beside : IsBeside eq (at cur) w a b t u) (join_keys half all : List ℤ) (below : IsNoted t a join_keys half) (above : IsNoted u (b +ℤ pos 1) half all) (i : IsJoinedBut eq join_keys cur) where
    before : at new (a -ℤ pos 1) ≡ at cur (a -ℤ pos 1)
    before = new_under (a -ℤ pos 1) (omega (arith, ints))

    behind : at new (b +ℤ pos 1) ≡ at cur (b +ℤ pos 1)
    behind = new_over (b +ℤ pos 1) (omega (arith, ints))

    last : at new (b +ℤ pos 1 -ℤ pos 1) ≡ Some w
    last = new_in (b +ℤ pos 1 -ℤ pos 1) (omega (arith, ints)) (omega (arith, ints))

    first : at new a ≡ Some w
    first = new_in a (omega (arith, ints)) order

    at_first : IsRunStart eq (at new) a ⊎ Contains all a
    unfolding IsRunStart
    at_first = by_same (at cur (a -ℤ pos 1))
        (λ s. inr (above.kept a (below.noted (beside.below.1 s))))
        (λ n. inl (some_w (at new a) first, λ s. n (same_along eq before first s)))

    at_behind : IsRunStart eq (at cur) (b +ℤ pos 1) → IsRunStart eq (at new) (b +ℤ pos 1) ⊎ Contains all (b +ℤ pos 1)
    unfolding IsRunStart
    at_behind r = by_same (at cur (b +ℤ pos 1))
        (λ s. inr (above.noted (beside.above.1 s)))
        (λ n. inl (subst IsSome (sym behind) r.0, λ s. n (same_back eq laws (Some w) (at cur (b +ℤ pos 1)) (same_along eq last behind s))))

    neighbours : (k : ℤ) → at new k ≡ at cur k → at new (k -ℤ pos 1) ≡ at cur (k -ℤ pos 1) → IsRunStart eq (at cur) k → IsRunStart eq (at new) k
    unfolding IsRunStart
    neighbours k q r s = (subst IsSome (sym q) s.0, λ t. s.1 (same_along eq r q t))

    at_other : (k : ℤ) → IsRunStart eq (at cur) k → IsRunStart eq (at new) k ⊎ Contains all k
    unfolding IsRunStart
    at_other k r = by_lt_z k a
        (λ l. inl (neighbours k (new_under k l) (new_under (k -ℤ pos 1) (omega (arith, ints))) r))
        (λ l. by_lt_z b k
        (λ u. by_lt_z (b +ℤ pos 1) k
        (λ m. inl (neighbours k (new_over k u) (new_over (k -ℤ pos 1) (omega (arith, ints))) r))
        (λ m.
        let is : b +ℤ pos 1 ≡ k = omega (arith, ints) in
        subst (λ j. IsRunStart eq (at new) j ⊎ Contains all j) is (at_behind (subst (IsRunStart eq (at cur)) (sym is) r))))
        (λ u. absurd (none_is_not (at cur k) (clear k l u) r.0)))

    joint_first : SameOption eq (at cur (a -ℤ pos 1)) (Some w) → IsJoint eq (at new) a
    joint_first s = (some_w (at new a) first, same_along eq (sym before) (sym first) s)

    joint_behind : SameOption eq (at cur (b +ℤ pos 1)) (Some w) → IsJoint eq (at new) (b +ℤ pos 1)
    joint_behind s =
        let back = same_back eq laws (at cur (b +ℤ pos 1)) (Some w) s in (
          subst IsSome (sym behind) (some_of_same eq (Some w) (at cur (b +ℤ pos 1)) back refl),
          same_along eq (sym last) (sym behind) back,
        )

    joint_kept : (k : ℤ) → IsJoint eq (at cur) k → IsJoint eq (at new) k
    joint_kept k j =
        let here = kept k j.0 in
        let there = kept (k -ℤ pos 1) (some_of_same eq (at cur k) (at cur (k -ℤ pos 1)) (same_back eq laws (at cur (k -ℤ pos 1)) (at cur k) j.1) j.0) in
        (subst IsSome (sym here) j.0, same_along eq (sym there) (sym here) j.1)

    pub joined_more : IsJoinedBut eq all new
    joined_more = record {
      starts = λ k h. elim (p.starts k h) [
        | inl q ↦ subst (λ j. IsRunStart eq (at new) j ⊎ Contains all j) (sym q) at_first
        | inr q ↦ elim (i.starts k q) [ inl r ↦ at_other k r | inr r ↦ inr (above.kept k (below.kept k r)) ]
      ];
      equal = λ k h. elim (above.only k h) [
        | inl q ↦ elim (below.only k q) [
          | inl r ↦ joint_kept k (i.equal k r)
          | inr r ↦ subst (IsJoint eq (at new)) (sym r.0) (joint_first (beside.below.0 r.1))
        ]
        | inr q ↦ subst (IsJoint eq (at new)) (sym q.0) (joint_behind (beside.above.0 q.1))
      ];
    }
