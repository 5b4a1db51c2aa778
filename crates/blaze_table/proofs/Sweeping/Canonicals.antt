-- A list with everything that pairs paint is their canonical list, and its length.
use Rattle.blaze_table.proofs.Words.{option_or, ◌≡◌, ℕ, ◌+◌, ◌-◌, ◌*◌, ◌≤◌, ℤ, ◌≤ℤ◌, Bool, cond, List, [], ◌∷◌, length, Some, None, refl, ◌∙◌, sym, ap, subst, arith, inl, inr, ⊎_elim, int_le, ◌⊎◌, IsEquivalence, by_lt_z, le_true, le_false, same_along, same_itself, same_trans, same_or_right, same_back, or_none, or_assoc, Entry, at, holds, SameOption, IsCanonical, last_at, painted_in_order, IsListPainted, paint, keyed_count, IsCanonicalOf, IsSwept, is_painted, paint_itself, painted_nowhere, length_as, one_per_run, unique}
use Rattle.blaze_table.proofs.Pairs.Lasts.{painted_one}
use Rattle.blaze_table.proofs.Sweeping.Sweeps.{at_past}

-- 1 if the pair has a key, else 0
abbrev is_keyed : {V : Type 0} → Entry V → ℕ
is_keyed p = cond (int_le p.lo p.hi) 1 0

-- the list after a paint of the pair, if the pair has a key
record IsPaintedOne {V : Type 0} (eq : V → V → Bool) (p : Entry V) (old new : List (Entry V)) : Type 0 where
  list : IsListPainted eq p old new
  count : ((new ≡ old) × (is_keyed p ≡ 0)) ⊎ (is_keyed p ≡ 1)

-- the list after paints of the pairs, in order
record IsPaintedEach {V : Type 0} (eq : V → V → Bool) (ps old new : List (Entry V)) : Type 0 where
  canonical : IsCanonical eq new
  content : (k : ℤ) → SameOption eq (at new k) (painted_in_order ps (at old) k)
  few : length new ≤ length old + 2 * keyed_count ps
  alone : old ≡ [] → length new ≤ 2 * keyed_count ps - 1

module _ {V : Type 0} (eq : V → V → Bool) (laws : IsEquivalence eq) where
  -- one pair is painted
  one_painted : (p : Entry V) (old : List (Entry V)) → IsCanonical eq old → (cur : List (Entry V)) × IsPaintedOne eq p old cur
  one_painted p old c = by_lt_z p.hi p.lo
      (λ h. (old, record { list = painted_nowhere eq laws p old h c; count = inl (refl, ap (λ b. cond b 1 0) (le_false p.lo p.hi h)) }))
      (λ h. (paint eq p.lo p.hi p.value old, record { list = is_painted eq laws p old (paint eq p.lo p.hi p.value old) h c (paint_itself eq laws p old c); count = inr (ap (λ b. cond b 1 0) (le_true p.lo p.hi h)) }))

  each_painted : (ps old : List (Entry V)) → IsCanonical eq old → (new : List (Entry V)) × IsPaintedEach eq ps old new
  each_painted [] old c = (old, record { canonical = c; content = λ k. same_itself eq laws (at old k); few = omega arith; alone = λ e. omega (arith, ap length e) })
  each_painted (p ∷ ps) old c =
      let one = one_painted p old c in
      let rest = each_painted ps one.0 one.1.list.canonical in (
        rest.0,
        record {
          canonical = rest.1.canonical;
          content = λ k. same_trans eq laws (at rest.0 k) (option_or (last_at ps k) (at one.0 k)) (painted_in_order (p ∷ ps) (at old) k) (rest.1.content k)
              (subst (SameOption eq (option_or (last_at ps k) (at one.0 k)))
              (ap (option_or (last_at ps k)) (painted_one (holds p k) p.value (at old k)) ∙ sym (or_assoc (last_at ps k) (cond (holds p k) (Some p.value) None) (at old k)))
              (same_or_right eq laws (last_at ps k) (at one.0 k) (cond (holds p k) (Some p.value) (at old k)) (one.1.list.content k)));
          few = ⊎_elim
              (λ (n : (one.0 ≡ old) × (is_keyed p ≡ 0)). let same = ap length n.0 in omega (arith, rest.1.few, same, n.1))
              (λ (n : is_keyed p ≡ 1). omega (arith, rest.1.few, one.1.list.few, n))
              one.1.count;
          alone = λ e. ⊎_elim
              (λ (n : (one.0 ≡ old) × (is_keyed p ≡ 0)). let less = rest.1.alone (n.0 ∙ e) in omega (arith, less, n.1))
              (λ (n : is_keyed p ≡ 1). let first = one.1.list.alone e in omega (arith, rest.1.few, first, n))
              one.1.count;
        },
      )

  -- If n pairs have a key, their paints on an empty map give a canonical list with at most 2n - 1 entries.
  pub few_painted : (ps out : List (Entry V)) → IsCanonical eq out → ((k : ℤ) → SameOption eq (at out k) (painted_in_order ps (at []) k)) → length out ≤ 2 * keyed_count ps - 1
  few_painted ps out c content =
      let each = each_painted ps [] tt in
      let same = unique eq laws each.0 out each.1.canonical c
      (λ k. same_trans eq laws (at each.0 k) (painted_in_order ps (at []) k) (at out k) (each.1.content k) (same_back eq laws (at out k) (painted_in_order ps (at []) k) (content k))) in
      omega (arith, length_as eq laws each.0 out same, each.1.alone refl)

  -- the list is the canonical list of the pairs
  pub canonical_of_swept : (low high a : ℤ) (ps out : List (Entry V)) → IsSwept eq low high (last_at ps) a out → ((k : ℤ) → a ≤ℤ k → last_at ps k ≡ None) → IsCanonicalOf eq low high ps out
  canonical_of_swept low high a ps out c none =
      let content = λ (k : ℤ). same_along eq {a = at out k} {b = last_at ps k} refl (sym (or_none (last_at ps k)))
      (by_lt_z k a (c.content k) (λ h. same_along eq {a = None} {b = None} (sym (at_past a k out c.below h)) (sym (none k h)) tt)) in
      record {
        range_map = record { runs = one_per_run eq laws out c.canonical; keys = c.keys };
        content = content;
        few = few_painted ps out c.canonical content;
      }
