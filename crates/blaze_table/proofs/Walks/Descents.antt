-- A walk down the entries by single lookups, each below the start of the previous entry.
use Rattle.blaze_table.proofs.Words.{◌≡◌, ℕ, ◌+◌, ◌<◌, ℤ, Bool, List, [], ◌∷◌, ◌++◌, length, Option, Some, None, refl, ◌∙◌, sym, ap, arith, length-append, option_map, found_in, StartsAscend, below, last_below, Entry}
use Rattle.blaze_table.proofs.Cuts.Splits.{last_at, no_last}
use Rattle.blaze_table.proofs.Neighbours.Growing.{below_last, front_last}

-- the number of remaining lookups, by the last result
abbrev pub rounds : {V : Type 0} → List (Entry V) → Option (ℤ × ℤ × Bool) → ℕ
rounds es None = 0
rounds es (Some t) = length (below t.0 es) + 1

module _ {V : Type 0} (test : V → Bool) (low high : ℤ) (es : List (Entry V)) (s : StartsAscend low high es) where
  -- the last lookup returned the last entry that starts below k
  pub record Down (k : ℤ) (t : ℤ × ℤ × Bool) : Type 0 where
    pub found : Entry V
    pub is : t ≡ found_in test found
    pub down : below k es ≡ below t.0 es ++ found ∷ []
    pub fewer : length (below t.0 es) + 1 ≡ length (below k es)

  pub down_to : (k : ℤ) (t : ℤ × ℤ × Bool) → Some t ≡ option_map (found_in test) (last_below k es) → Down k t
  down_to k t q = by_last (last_below k es) refl q
    where
      by_last : (o : Option (Entry V)) → last_below k es ≡ o → Some t ≡ option_map (found_in test) o → Down k t
      by_last None p q = cc
      by_last (Some e) p q =
          let is : t ≡ found_in test e = cc in
          let start : e.lo ≡ t.0 = sym (ap (λ (x : ℤ × ℤ × Bool). x.0) is) in
          let i = last_at k low high e es s p in
          let step : below k es ≡ below t.0 es ++ e ∷ [] = below_last k high e es i ∙ ap (λ x. x ++ e ∷ []) (sym (front_last k high e es i) ∙ ap (λ x. below x es) start) in
          record {
            found = e;
            is = is;
            down = step;
            fewer = sym (ap length step ∙ length-append (below t.0 es) (e ∷ []));
          }

  -- no entry remains
  pub at_bottom : (k : ℤ) → None ≡ option_map (found_in test) (last_below k es) → below k es ≡ []
  at_bottom k q = by_last (last_below k es) refl q
    where
      by_last : (o : Option (Entry V)) → last_below k es ≡ o → None ≡ option_map (found_in test) o → below k es ≡ []
      by_last None p q = no_last k low high es s p
      by_last (Some e) p q = cc

  -- the next lookup is below the entry
  pub rounds_fall : (k : ℤ) (t : ℤ × ℤ × Bool) (r o : Option (ℤ × ℤ × Bool)) → o ≡ Some t → r ≡ option_map (found_in test) (last_below t.0 es) → rounds es r < rounds es o
  rounds_fall k t r o p q = rw p (below_it r q)
    where
      below_it : (r : Option (ℤ × ℤ × Bool)) → r ≡ option_map (found_in test) (last_below t.0 es) → rounds es r < length (below t.0 es) + 1
      below_it None q = omega arith
      below_it (Some u) q = let d = down_to t.0 u q in omega (arith, d.fewer)
