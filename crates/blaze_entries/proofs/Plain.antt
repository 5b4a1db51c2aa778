-- What a changed content says in plain words: at the changed keys, and at the others. What it means that no key of a range has a
-- value, and that numbers are equal.
use Rattle.blaze_entries.proofs.Words.{◌≡◌, ℕ, zero, suc, ℤ, pos, ◌+ℤ◌, ◌-ℤ◌, ◌≤ℤ◌, ◌<ℤ◌, ◌⊎◌, Bool, List, [], ◌∷◌, Option, Some, None, refl, ◌∙◌, sym, subst, ap, arith, ints, nat_eq, eqb-true, Entry, at, SameOption, painted_content, cut_at, cut_range_at, overlapping, mapped_keys, IsRangeMap, IsChosen}
use Rattle.blaze_int.proofs.Naturals.{nat_of-pos}
use Rattle.blaze_int.specs.Unsigned.{nat_of}
use Rattle.blaze_entries.specs.Count.{mapped}

module _ {V : Type 0} where
  content_inside : (l h k : ℤ) (v : V) (old : ℤ → Option V) → l ≤ℤ k → k ≤ℤ h → painted_content l h v old k ≡ Some v
  content_inside l h k v old from to = grind (arith, ints)

  content_outside : (l h k : ℤ) (v : V) (old : ℤ → Option V) → (k <ℤ l) ⊎ (h <ℤ k) → painted_content l h v old k ≡ old k
  content_outside l h k v old out = grind (arith, ints)

  cut_in : (l h k : ℤ) (old : ℤ → Option V) → l ≤ℤ k → k ≤ℤ h → cut_range_at l h old k ≡ None
  cut_in l h k old from to = grind (arith, ints)

  cut_out : (l h k : ℤ) (old : ℤ → Option V) → (k <ℤ l) ⊎ (h <ℤ k) → cut_range_at l h old k ≡ old k
  cut_out l h k old out = grind (arith, ints)

  key_in : (k : ℤ) (old : ℤ → Option V) → cut_at k old k ≡ None
  key_in k old = grind (arith, ints)

  key_out : (k j : ℤ) (old : ℤ → Option V) → (j <ℤ k) ⊎ (k <ℤ j) → cut_at k old j ≡ old j
  key_out k j old out = grind (arith, ints)

module _ {V : Type 0} (eq : V → V → Bool) where
  -- what is equal to no value is none
  pub is_none_by : (o : Option V) → SameOption eq o None → o ≡ None
  is_none_by None same = refl
  is_none_by (Some x) same = absurd same

  module _ (old new : List (Entry V)) where
    module _ (p : Entry V) (content : (k : ℤ) → SameOption eq (at new k) (painted_content p.lo p.hi p.value (at old) k)) where
      pub painted_inside : (k : ℤ) → p.lo ≤ℤ k → k ≤ℤ p.hi → SameOption eq (at new k) (Some p.value)
      painted_inside k from to = subst (SameOption eq (at new k)) (content_inside p.lo p.hi k p.value (at old) from to) (content k)

      pub painted_outside : (k : ℤ) → (k <ℤ p.lo) ⊎ (p.hi <ℤ k) → SameOption eq (at new k) (at old k)
      painted_outside k out = subst (SameOption eq (at new k)) (content_outside p.lo p.hi k p.value (at old) out) (content k)

    module _ (l h : ℤ) (content : (j : ℤ) → SameOption eq (at new j) (cut_range_at l h (at old) j)) where
      pub cut_inside : (j : ℤ) → l ≤ℤ j → j ≤ℤ h → at new j ≡ None
      cut_inside j from to = is_none_by (at new j) (subst (SameOption eq (at new j)) (cut_in l h j (at old) from to) (content j))

      pub cut_outside : (j : ℤ) → (j <ℤ l) ⊎ (h <ℤ j) → SameOption eq (at new j) (at old j)
      cut_outside j out = subst (SameOption eq (at new j)) (cut_out l h j (at old) out) (content j)

    module _ (k : ℤ) (content : (j : ℤ) → SameOption eq (at new j) (cut_at k (at old) j)) where
      pub cut_here : at new k ≡ None
      cut_here = is_none_by (at new k) (subst (SameOption eq (at new k)) (key_in k (at old)) (content k))

      pub cut_others : (j : ℤ) → (j <ℤ k) ⊎ (k <ℤ j) → SameOption eq (at new j) (at old j)
      cut_others j out = subst (SameOption eq (at new j)) (key_out k j (at old) out) (content j)

-- a range map with the chosen content
pub chosen : {A B V : Type 0} {eq : V → V → Bool} {low high : ℤ} {choose : Option A → Option B → Option V} {left : List (Entry A)} {right : List (Entry B)} {new : List (Entry V)}
    → IsRangeMap eq low high new → ((k : ℤ) → SameOption eq (at new k) (choose (at left k) (at right k))) → IsChosen eq low high choose left right new
chosen {eq = eq} {choose = choose} {left = left} {new = new} range_map content = record {
  range_map = range_map;
  content = content;
  right_none = λ k none. subst (λ o. SameOption eq (at new k) (choose (at left k) o)) none (content k);
  right_some = λ k v some. subst (λ o. SameOption eq (at new k) (choose (at left k) o)) some (content k);
}

-- equal numbers are the same number
pub same_is : (a b : Option ℕ) → SameOption nat_eq a b → b ≡ a
same_is None None s = refl
same_is None (Some y) s = absurd s
same_is (Some x) None s = absurd s
same_is (Some x) (Some y) s = ap Some (sym (eqb-true x y s))

-- if no entry has a key of the range, no key of it has a value
pub overlap_clear : {V : Type 0} (l h k : ℤ) (es : List (Entry V)) → l ≤ℤ k → k ≤ℤ h → overlapping l h es ≡ [] → at es k ≡ None
overlap_clear l h k [] from to none = refl
overlap_clear l h k (e ∷ es) from to none = grind (arith, ints, overlap_clear l h k es from to)

-- if none of n keys is counted, none of them has a value
mapped_clear : {V : Type 0} (content : ℤ → Option V) (n : ℕ) (a k : ℤ) → mapped content a n ≡ 0 → a ≤ℤ k → k <ℤ (a +ℤ pos n) → content k ≡ None
unfolding mapped
mapped_clear content zero a k none from to = absurd (omega (arith, ints))
mapped_clear content (suc n) a k none from to = grind (arith, ints, mapped_clear content n (a +ℤ pos 1) k)

pub count_clear : {V : Type 0} (content : ℤ → Option V) (l h k : ℤ) (n : ℕ) → n ≡ mapped_keys l h content → n ≡ 0 → l ≤ℤ k → k ≤ℤ h → content k ≡ None
count_clear content l h k n counted none from to =
    let width = nat_of-pos ((h -ℤ l) +ℤ pos 1) (omega (arith, ints)) in
    mapped_clear content (nat_of ((h -ℤ l) +ℤ pos 1)) l k (sym counted ∙ none) from (omega (arith, ints, width))
