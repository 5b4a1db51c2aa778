-- Range maps that agree at every key are equal.
use Rattle.range_map_cli.proofs.Words.{◌≡◌, ◌≤ℤ◌, ℤ, Bool, List, Option, Some, None, refl, sym, subst, arith, ints, by_lt_z, IsEquivalence, IsTotalOrder, is_eq, Ordering, IsKey, same_along, AreKeys, Entry, at, SameContent, SameOption, same_entries, content_decides, map_cmp, map_cmp_total, order_of_pairs, ties_where_equal, EqualWhereGetsAre, IsOrderOfMaps}
use Rattle.range_map_cli.proofs.Stepping.EndKeys.{at_key}

-- what is no key has no value
none_off : {V : Type 0} (low high : ℤ) (es : List (Entry V)) (k : ℤ) → AreKeys low high es → ((low ≤ℤ k) × (k ≤ℤ high) → ⊥) → at es k ≡ None
none_off {V} low high es k keys off = by_value (at es k) refl
  where
    by_value : (o : Option V) → at es k ≡ o → at es k ≡ None
    by_value None p = p
    by_value (Some v) p = absurd (off (at_key low high es k v keys p))

module _ {T V : Type 0} (rank : T → ℤ) (of_rank : ℤ → T) (eq : V → V → Bool) (laws : IsEquivalence eq) (low high : ℤ) (has_key : (z : ℤ) → low ≤ℤ z → z ≤ℤ high → rank (of_rank z) ≡ z) where
  -- contents that agree at the keys agree
  agree : (L M : List (Entry V)) → AreKeys low high L → AreKeys low high M → ((key : T) → IsKey rank low high key → SameOption eq (at L (rank key)) (at M (rank key))) → SameContent eq L M
  agree L M l m same k = by_lt_z k low
      (λ u. off (λ h. omega (arith, ints, u, h.0)))
      (λ a. by_lt_z high k
      (λ u. off (λ h. omega (arith, ints, u, h.1)))
      (λ b. let is = has_key k a b in subst (λ j. SameOption eq (at L j) (at M j)) is (same (of_rank k) (omega (arith, ints, is, a), omega (arith, ints, is, b)))))
    where
      off : ((low ≤ℤ k) × (k ≤ℤ high) → ⊥) → SameOption eq (at L k) (at M k)
      off n = same_along eq {a = None} {b = None} (sym (none_off low high L k l n)) (sym (none_off low high M k m n)) tt

  pub equal_where_gets_are : EqualWhereGetsAre rank eq low high
  equal_where_gets_are L M l m =
      let decides = content_decides eq laws low high L M (same_entries eq L M) refl l m in
      (λ h key is. decides.0 h (rank key), λ same. decides.1 (agree L M l.keys m.keys same))

pub order_of_maps : {V : Type 0} (eq : V → V → Bool) (value : V → V → Ordering) (low high : ℤ) → IsEquivalence eq → IsTotalOrder value → ((x y : V) → eq x y ≡ is_eq (value x y)) → IsOrderOfMaps eq value low high
order_of_maps eq value low high laws total ties = record {
  total = map_cmp_total value total;
  equal = λ L M l m. ties_where_equal eq value ties laws low high L M l m (map_cmp value L M) (sym (order_of_pairs eq value ties laws low high L M l m));
}
