-- The first and the last entry have the least and the greatest key.
use Rattle.range_map_blaze.proofs.Words.{◌≡◌, ℕ, zero, suc, ◌-◌, ◌≤◌, ℤ, ◌≤ℤ◌, ◌<ℤ◌, Bool, List, [], ◌∷◌, length, Option, Some, None, refl, ◌∙◌, subst, arith, slice_get, MatchOption, option_map, ints, CountedEntries, IsFirstKeyRemoved, IsLastKeyRemoved, Entry, at, IsDisjoint, IsAscending, at_in, at_under, at_over, in_order, IsFirstPair, IsLastPair, PopsFirst, PopsLast}

module _ {V : Type 0} where
  none_some : (v : V) → None ≡ Some v → ⊥
  none_some v p = cc

  nothing_under : (e : Entry V) (es : List (Entry V)) (j : ℤ) → IsAscending (e ∷ es) → j <ℤ e.lo → at (e ∷ es) j ≡ None
  nothing_under e [] j a l = at_under e [] j l
  nothing_under e (f ∷ fs) j a l = at_under e (f ∷ fs) j l ∙ nothing_under f fs j a.1 (omega (arith, ints, a.0))

  pub first_pair : (e : Entry V) (es : List (Entry V)) → IsDisjoint (e ∷ es) → IsAscending (e ∷ es) → IsFirstPair (at (e ∷ es)) e.lo e.value
  first_pair e es d a = record {
    here = at_in e es e.lo (omega (arith, ints)) d.0;
    none_below = λ j l. nothing_under e es j a l;
  }

  last_from : (e : Entry V) (es : List (Entry V)) (l : Entry V) → IsDisjoint (e ∷ es) → IsAscending (e ∷ es) → slice_get (e ∷ es) (length es) ≡ Some l → (e.lo ≤ℤ l.hi) × IsLastPair (at (e ∷ es)) l.hi l.value
  last_from e [] l d a p =
      let same : e ≡ l = cc in
      subst (λ (f : Entry V). (e.lo ≤ℤ f.hi) × IsLastPair (at (e ∷ [])) f.hi f.value) same
      (d.0, record { here = at_in e [] e.hi d.0 (omega (arith, ints)); none_above = λ j u. at_over e [] j u })
  last_from e (f ∷ fs) l d a p =
      let rest = last_from f fs l d.2 a.1 p in
      let gap = in_order e f fs d a in (
        omega (arith, ints, a.0, rest.0),
        record {
          here = at_over e (f ∷ fs) l.hi (omega (arith, ints, rest.0)) ∙ rest.1.here;
          none_above = λ j u. at_over e (f ∷ fs) j (omega (arith, ints, rest.0)) ∙ rest.1.none_above j u;
        },
      )

  -- what the first entry says of the least key
  pub first_of : (es : List (Entry V)) (e : Entry V) → IsDisjoint es → IsAscending es → slice_get es 0 ≡ Some e → IsFirstPair (at es) e.lo e.value
  first_of [] e d a p = absurd (cc)
  first_of (f ∷ fs) e d a p = let same : f ≡ e = cc in subst (λ (g : Entry V). IsFirstPair (at (f ∷ fs)) g.lo g.value) same (first_pair f fs d a)

  pub first_at : (es : List (Entry V)) (k : ℤ) → IsDisjoint es → IsAscending es → option_map (λ e. e.lo) (slice_get es 0) ≡ Some k → (value : V) × IsFirstPair (at es) k value
  first_at [] k d a p = cc
  first_at (e ∷ es) k d a p = let same : e.lo ≡ k = cc in (e.value, subst (λ l. IsFirstPair (at (e ∷ es)) l e.value) same (first_pair e es d a))

  -- what the last entry says of the greatest key
  pub last_of : (es : List (Entry V)) (e : Entry V) → IsDisjoint es → IsAscending es → slice_get es (length es - 1) ≡ Some e → IsLastPair (at es) e.hi e.value
  last_of [] e d a p = absurd (cc)
  last_of (f ∷ fs) e d a p =
      let place : length (f ∷ fs) - 1 ≡ length fs = omega arith in
      (last_from f fs e d a (subst (λ n. slice_get (f ∷ fs) n ≡ Some e) place p)).1

  pub last_at : (es : List (Entry V)) (k : ℤ) → IsDisjoint es → IsAscending es → option_map (λ e. e.hi) (slice_get es (length es - 1)) ≡ Some k → (value : V) × IsLastPair (at es) k value
  last_at es k d a p = by_last (slice_get es (length es - 1)) refl p
    where
      by_last : (o : Option (Entry V)) → slice_get es (length es - 1) ≡ o → option_map (λ (e : Entry V). e.hi) o ≡ Some k → (value : V) × IsLastPair (at es) k value
      by_last None q p = cc
      by_last (Some l) q p = let same : l.hi ≡ k = cc in (l.value, subst (λ h. IsLastPair (at es) h l.value) same (last_of es l d a q))

  pub none_of : (es : List (Entry V)) (n : ℕ) → n ≡ length es - 1 → slice_get es n ≡ None → es ≡ []
  none_of [] n p q = refl
  none_of (e ∷ es) n p q = absurd (inside (e ∷ es) n (omega arith) q)
    where
      inside : (xs : List (Entry V)) (i : ℕ) → suc i ≤ length xs → slice_get xs i ≡ None → ⊥
      inside [] i l r = omega arith
      inside (x ∷ xs) zero l r = cc
      inside (x ∷ xs) (suc i) l r = inside xs i (omega arith) r

  pub none_first : (es : List (Entry V)) → slice_get es 0 ≡ None → es ≡ []
  none_first [] q = refl
  none_first (e ∷ es) q = absurd (cc)

-- the table's first key taken out is the map's least key
pub pops_least : {T V : Type 0} (rank : T → ℤ) (eq : V → V → Bool) (low high : ℤ) (popped : Option (T × V)) (old new : CountedEntries V) → IsDisjoint old.entries → IsAscending old.entries
    → MatchOption popped ((old.entries ≡ []) × (new ≡ old)) (λ pair. IsFirstKeyRemoved eq low high (rank pair.0) pair.1 old.entries new.entries)
    → MatchOption popped ((old.entries ≡ []) × (new ≡ old)) (λ pair. PopsFirst eq low high (rank pair.0) pair.1 old.entries new.entries)
pops_least rank eq low high None old new d a m = m
pops_least rank eq low high (Some pair) old new d a m =
    let least = first_at old.entries (rank pair.0) d a m.first in
    record { stored = least.0; first = least.1; equal = m.equal; cut = m.cut }

-- and its last key the map's greatest
pub pops_greatest : {T V : Type 0} (rank : T → ℤ) (eq : V → V → Bool) (low high : ℤ) (popped : Option (T × V)) (old new : CountedEntries V) → IsDisjoint old.entries → IsAscending old.entries
    → MatchOption popped ((old.entries ≡ []) × (new ≡ old)) (λ pair. IsLastKeyRemoved eq low high (rank pair.0) pair.1 old.entries new.entries)
    → MatchOption popped ((old.entries ≡ []) × (new ≡ old)) (λ pair. PopsLast eq low high (rank pair.0) pair.1 old.entries new.entries)
pops_greatest rank eq low high None old new d a m = m
pops_greatest rank eq low high (Some pair) old new d a m =
    let greatest = last_at old.entries (rank pair.0) d a m.last in
    record { stored = greatest.0; last = greatest.1; equal = m.equal; cut = m.cut }
