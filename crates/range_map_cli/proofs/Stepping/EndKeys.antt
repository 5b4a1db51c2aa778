-- The least and the greatest key that has a value, and how many have one.
use Rattle.range_map_cli.proofs.Words.{◌≡◌, ℕ, zero, suc, ◌+◌, ℤ, pos, ◌+ℤ◌, ◌-ℤ◌, ◌≤ℤ◌, ◌<ℤ◌, cond, List, [], ◌∷◌, Option, Some, None, is_some, refl, ◌∙◌, sym, ap, subst, arith, ints, by_lt_z, nat_of-pos, Entry, at, AreKeys, at_over, at_under, by_place, first_mapped_key, last_mapped_key}
use Rattle.blaze_entries.specs.Count.{mapped}
use Rattle.range_map_cli.specs.Steps.{least_mapped, greatest_mapped}

module _ {A B : Type 0} (c : ℤ → Option A) (d : ℤ → Option B) (alike : (k : ℤ) → is_some (c k) ≡ is_some (d k)) where
  pub mapped_alike : (a : ℤ) (n : ℕ) → mapped c a n ≡ mapped d a n
  unfolding mapped
  mapped_alike a zero = refl
  mapped_alike a (suc n) = ap (λ t. (cond t 1 0) + mapped c (a +ℤ pos 1) n) (alike a) ∙ ap (λ m. (cond (is_some (d a)) 1 0) + m) (mapped_alike (a +ℤ pos 1) n)

  pub first_alike : (a : ℤ) (n : ℕ) → least_mapped c a n ≡ least_mapped d a n
  unfolding least_mapped
  first_alike a zero = refl
  first_alike a (suc n) = ap (λ t. cond t (Some a) (least_mapped c (a +ℤ pos 1) n)) (alike a) ∙ ap (λ o. cond (is_some (d a)) (Some a) o) (first_alike (a +ℤ pos 1) n)

  pub last_alike : (b : ℤ) (n : ℕ) → greatest_mapped c b n ≡ greatest_mapped d b n
  unfolding greatest_mapped
  last_alike b zero = refl
  last_alike b (suc n) = ap (λ t. cond t (Some b) (greatest_mapped c (b -ℤ pos 1) n)) (alike b) ∙ ap (λ o. cond (is_some (d b)) (Some b) o) (last_alike (b -ℤ pos 1) n)

module _ {V : Type 0} (content : ℤ → Option V) where
  pub first_none : (a : ℤ) (n : ℕ) → ((k : ℤ) → content k ≡ None) → least_mapped content a n ≡ None
  unfolding least_mapped
  first_none a zero none = refl
  first_none a (suc n) none = ap (λ o. cond (is_some o) (Some a) (least_mapped content (a +ℤ pos 1) n)) (none a) ∙ first_none (a +ℤ pos 1) n none

  pub last_none : (b : ℤ) (n : ℕ) → ((k : ℤ) → content k ≡ None) → greatest_mapped content b n ≡ None
  unfolding greatest_mapped
  last_none b zero none = refl
  last_none b (suc n) none = ap (λ o. cond (is_some o) (Some b) (greatest_mapped content (b -ℤ pos 1) n)) (none b) ∙ last_none (b -ℤ pos 1) n none

  pub first_is : (k : ℤ) (v : V) (a : ℤ) (n : ℕ) → content k ≡ Some v → ((j : ℤ) → j <ℤ k → content j ≡ None) → a ≤ℤ k → k <ℤ (a +ℤ pos n) → least_mapped content a n ≡ Some k
  unfolding least_mapped
  first_is k v a zero here none l m = absurd (omega (arith, ints))
  first_is k v a (suc n) here none l m = by_lt_z a k
      (λ u. ap (λ o. cond (is_some o) (Some a) (least_mapped content (a +ℤ pos 1) n)) (none a u) ∙ first_is k v (a +ℤ pos 1) n here none (omega (arith, ints)) (omega (arith, ints)))
      (λ u. let same : k ≡ a = omega (arith, ints) in
      ap (λ o. cond (is_some o) (Some a) (least_mapped content (a +ℤ pos 1) n)) (subst (λ j. content j ≡ Some v) same here) ∙ ap Some (sym same))

  pub last_is : (k : ℤ) (v : V) (b : ℤ) (n : ℕ) → content k ≡ Some v → ((j : ℤ) → k <ℤ j → content j ≡ None) → k ≤ℤ b → b <ℤ (k +ℤ pos n) → greatest_mapped content b n ≡ Some k
  unfolding greatest_mapped
  last_is k v b zero here none l m = absurd (omega (arith, ints))
  last_is k v b (suc n) here none l m = by_lt_z k b
      (λ u. ap (λ o. cond (is_some o) (Some b) (greatest_mapped content (b -ℤ pos 1) n)) (none b u) ∙ last_is k v (b -ℤ pos 1) n here none (omega (arith, ints)) (omega (arith, ints)))
      (λ u. let same : k ≡ b = omega (arith, ints) in
      ap (λ o. cond (is_some o) (Some b) (greatest_mapped content (b -ℤ pos 1) n)) (subst (λ j. content j ≡ Some v) same here) ∙ ap Some (sym same))

-- a key that has a value is a key of the type
pub at_key : {V : Type 0} (low high : ℤ) (es : List (Entry V)) (k : ℤ) (v : V) → AreKeys low high es → at es k ≡ Some v → (low ≤ℤ k) × (k ≤ℤ high)
at_key low high [] k v keys p = absurd cc
at_key low high (e ∷ es) k v keys p = by_place e k
    (λ l h. (omega (arith, ints, keys.0), omega (arith, ints, keys.1)))
    (λ l. at_key low high es k v keys.2 (sym (at_under e es k l) ∙ p))
    (λ h. at_key low high es k v keys.2 (sym (at_over e es k h) ∙ p))

-- the least key of a range map that has keys
pub first_key_is : {V : Type 0} (low high : ℤ) (es : List (Entry V)) (k : ℤ) (v : V) → AreKeys low high es → at es k ≡ Some v → ((j : ℤ) → j <ℤ k → at es j ≡ None) → first_mapped_key low high (at es) ≡ Some k
first_key_is low high es k v keys here none =
    let b = at_key low high es k v keys here in
    let w = nat_of-pos (high -ℤ low +ℤ pos 1) (omega (arith, ints, b.0, b.1)) in
    first_is (at es) k v low _ here none b.0 (omega (arith, ints, b.1, w))

-- the greatest
pub last_key_is : {V : Type 0} (low high : ℤ) (es : List (Entry V)) (k : ℤ) (v : V) → AreKeys low high es → at es k ≡ Some v → ((j : ℤ) → k <ℤ j → at es j ≡ None) → last_mapped_key low high (at es) ≡ Some k
last_key_is low high es k v keys here none =
    let b = at_key low high es k v keys here in
    let w = nat_of-pos (high -ℤ low +ℤ pos 1) (omega (arith, ints, b.0, b.1)) in
    last_is (at es) k v high _ here none b.1 (omega (arith, ints, b.0, w))
