-- The joints are joined one by one.
use Rattle.blaze_table.proofs.Words.{◌≡◌, ℤ, pos, ◌-ℤ◌, Bool, List, [], ◌∷◌, ◌++◌, length, Option, Some, map, ◌∙◌, sym, subst, ap, arith, inl, inr, option_to_list, IsEquivalence, Contains, Contains-append_left, Contains-push, Contains-push_cases, same_back, same_itself, same_trans, some_of_same, IsCanonical, Entry, entry, at, SameOption, SameContent, AreStartsKept, IsJoint, IsJoinedAt, IsJoinedBut, IsOrdered}
use Rattle.blaze_entries.specs.Canonical.{IsRunStart}
use Rattle.blaze_table.proofs.Fills.KeptEntries.{kept_further}
use Rattle.blaze_table.proofs.Fills.Ordered.{canonical_by_starts}
use Rattle.blaze_table.proofs.Fills.TakenBack.{map_last}

module _ {V : Type 0} (eq : V → V → Bool) (laws : IsEquivalence eq) where
  -- a joint, and a run start, of contents that are equal
  joint_as : (old new : ℤ → Option V) (k : ℤ) → ((j : ℤ) → SameOption eq (new j) (old j)) → IsJoint eq old k → IsJoint eq new k
  joint_as old new k s h = (
    some_of_same eq (old k) (new k) (same_back eq laws (new k) (old k) (s k)) h.0,
    same_trans eq laws (new (k -ℤ pos 1)) (old (k -ℤ pos 1)) (new k) (s (k -ℤ pos 1)) (same_trans eq laws (old (k -ℤ pos 1)) (old k) (new k) h.1 (same_back eq laws (new k) (old k) (s k))),
  )

  pub run_start_as : (old new : ℤ → Option V) (k : ℤ) → ((j : ℤ) → SameOption eq (new j) (old j)) → IsRunStart eq old k → IsRunStart eq new k
  unfolding IsRunStart
  run_start_as old new k s h = (
    some_of_same eq (old k) (new k) (same_back eq laws (new k) (old k) (s k)) h.0,
    λ q. h.1 (same_trans eq laws (old (k -ℤ pos 1)) (new (k -ℤ pos 1)) (old k) (same_back eq laws (new (k -ℤ pos 1)) (old (k -ℤ pos 1)) (s (k -ℤ pos 1)))
        (same_trans eq laws (new (k -ℤ pos 1)) (new k) (old k) q (s k))),
  )

  -- the remaining joints after the last one is taken
  module _ {T : Type 0} (rank : T → ℤ) (all rest : List T) (t : T) (q : all ≡ rest ++ option_to_list (Some t)) (es : List (Entry V)) (i : IsJoinedBut eq (map rank all) es) where
    parts : map rank all ≡ map rank rest ++ rank t ∷ []
    parts = ap (map rank) q ∙ map_last rank rest t

    pub joint_next : IsJoint eq (at es) (rank t)
    joint_next = i.equal (rank t) (subst (λ ks. Contains ks (rank t)) (sym parts) (Contains-push (map rank rest) (rank t)))

    pub joined_next : (low high : ℤ) (new : List (Entry V)) → IsJoinedAt eq low high (rank t) es new → IsJoinedBut eq (map rank rest) new
    joined_next low high new j = record {
      starts = λ k h.
          let was = j.starts k h in
          elim (i.starts k was.0) [
            | inl r ↦ inl (run_start_as (at es) (at new) k j.same r)
            | inr r ↦ elim (Contains-push_cases (map rank rest) (rank t) k (subst (λ ks. Contains ks k) parts r)) [
              | inl u ↦ inr u
              | inr u ↦ absurd (was.1 (sym u))
            ]
          ];
      equal = λ k h. joint_as (at es) (at new) k j.same (i.equal k (subst (λ ks. Contains ks k) (sym parts) (Contains-append_left (map rank rest) (rank t ∷ []) k h)));
    }

  -- one joint more: no run starts there
  pub kept_next : (s low high : ℤ) (start es new : List (Entry V)) → SameContent eq es start → IsJoint eq (at es) s → IsJoinedAt eq low high s es new → AreStartsKept eq (at start) start es → AreStartsKept eq (at start) start new
  unfolding IsRunStart
  kept_next s low high start es new same joint j kept e c r =
      let k = kept e c r in
      let was = joint_as (at es) (at start) s (λ i. same_back eq laws (at es i) (at start i) (same i)) joint in
      kept_further new e k.0 k.1 (j.kept (entry e.lo k.0 e.value) k.2 (λ q. r.1 (subst (λ i. SameOption eq (at start (i -ℤ pos 1)) (at start i)) (sym q) was.1)))

  -- no joint remains
  pub joined_all : {T : Type 0} (rank : T → ℤ) (join_keys : List T) (es : List (Entry V)) → length join_keys ≡ 0 → IsOrdered es → IsJoinedBut eq (map rank join_keys) es → IsCanonical eq es
  joined_all rank [] es q c i = canonical_by_starts eq es c (λ k h. elim (i.starts k h) [ inl r ↦ r | inr r ↦ absurd (not_in k r) ])
    where
      not_in : (k : ℤ) → Contains {X = ℤ} [] k → ⊥
      not_in k (i, u, q) = omega arith
  joined_all rank (t ∷ ts) es q c i = absurd (omega arith)

  pub same_then : (new mid old : List (Entry V)) → SameContent eq new mid → SameContent eq mid old → SameContent eq new old
  same_then new mid old a b k = same_trans eq laws (at new k) (at mid k) (at old k) (a k) (b k)

  pub same_content : (es : List (Entry V)) → SameContent eq es es
  same_content es k = same_itself eq laws (at es k)
