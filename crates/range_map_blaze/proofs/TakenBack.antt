-- Keys that are taken out of a list, and painted back.
use Rattle.range_map_blaze.proofs.Words.{◌↔◌, IsTrue, find, int_le, int_lt, option_or, IsEquivalence, ◌≡◌, ℤ, ◌≤ℤ◌, ◌<ℤ◌, Bool, true, false, cond, List, [], ◌∷◌, Option, Some, None, refl, ◌∙◌, sym, subst, arith, ints, by_lt_z, lt_fails, lt_holds, same_along, same_back, same_itself, same_or, same_trans, IsClearFrom, IsCanonical, IsRangeMap, left_with_right, right_first, IsChosen, cut_range_at, Entry, at, holds, SameOption, at_in, at_over, holds_ends, canonical, one_per_run, unique, at_first, TakingIsUndone, one_range, AreKeysTaken, chosen, cut_inside, cut_outside, is_none_by, IsRangeCut, at_under, inl, inr, ◌⊎◌}
use Rattle.range_map_blaze.proofs.Nearest.{ends_above, ends_below}
use Rattle.range_map_blaze.proofs.Paints.PaintedOver.{painted_over}
use Rattle.range_map_blaze.proofs.Paints.Paintings.{in_turn}

-- ---- whether a range is free, by the first entry that ends at its start or above

module _ {V : Type 0} (eq : V → V → Bool) (l h : ℤ) where
  -- the first that ends at l or above, if there is one, starts above h
  abbrev pub IsBeyond : Option (Entry V) → Type 0
  IsBeyond None = Unit {0}
  IsBeyond (Some e) = h <ℤ e.lo

  pub free_before : (es : List (Entry V)) → IsCanonical eq es → (o : Option (Entry V)) → o ≡ find (λ x. int_le l x.hi) es → IsBeyond o → IsClearFrom (at es) l h
  free_before [] c o p b k from to = refl
  free_before (e ∷ es) c o p b k from to = by_lt_z e.hi l
      (λ u. at_over e es k (omega (arith, ints)) ∙ free_before es c.2 o (p ∙ ends_below eq l e es u) b k from to)
      (λ u. at_first eq e es k c (let w : h <ℤ e.lo = subst IsBeyond (p ∙ ends_above eq l e es u) b in omega (arith, ints)))

  pub not_free : (es : List (Entry V)) → IsCanonical eq es → l ≤ℤ h → (f : Entry V) → Some f ≡ find (λ x. int_le l x.hi) es → f.lo ≤ℤ h → IsClearFrom (at es) l h → ⊥
  not_free [] c w f p b free = cc
  not_free (e ∷ es) c w f p b free = by_lt_z e.hi l
      (λ u. not_free es c.2 w f (p ∙ ends_below eq l e es u) b (λ k from to. sym (at_over e es k (omega (arith, ints))) ∙ free k from to))
      (λ u. let is : f ≡ e = same (p ∙ ends_above eq l e es u) in
      let lo : e.lo ≤ℤ h = subst (λ x. x.lo ≤ℤ h) is b in
      by_lt_z l e.lo
      (λ v. here e es e.lo (omega (arith, ints)) (omega (arith, ints, c.0)) (free e.lo (omega (arith, ints)) lo))
      (λ v. here e es l v u (free l (omega (arith, ints)) w)))
    where
      same : {f e : Entry V} → Some f ≡ Some e → f ≡ e
      same p = cc

      here : (e : Entry V) (es : List (Entry V)) (k : ℤ) → e.lo ≤ℤ k → k ≤ℤ e.hi → at (e ∷ es) k ≡ None → ⊥
      here e es k a b n = let is : Some e.value ≡ None = sym (at_in e es k a b) ∙ n in cc

  -- where there is one, whether it starts above h decides
  pub free_decided : (es : List (Entry V)) → IsCanonical eq es → l ≤ℤ h → (f : Entry V) → Some f ≡ find (λ x. int_le l x.hi) es → (b : Bool) → b ≡ int_lt h f.lo → IsTrue b ↔ IsClearFrom (at es) l h
  free_decided es c w f p true q = ((λ t. free_before es c (Some f) p (lt_holds h f.lo (sym q))), (λ s. refl))
  free_decided es c w f p false q = ((λ t. cc), (λ s. absurd (not_free es c w f p (lt_fails h f.lo (sym q)) s)))

-- ---- nothing is taken out of a free range

-- what a range has at a key
abbrev unit_if : Bool → Option (Unit {0})
unit_if b = cond b (Some tt) None

module _ {V : Type 0} (eq : V → V → Bool) (laws : IsEquivalence eq) (low high l h : ℤ) where
  -- the range
  abbrev one : Entry (Unit {0})
  one = record { lo = l; hi = h; value = tt }

  kept : (b : Bool) (x : Option V) → (b ≡ true → x ≡ None) → SameOption eq x (cond b None x)
  kept true x n = rw (n refl) tt
  kept false x n = same_itself eq laws x

  none_of : (b : Bool) (x : Option V) → (b ≡ true → x ≡ None) → SameOption eq None (left_with_right x (unit_if b))
  none_of true x n = rw (n refl) tt
  none_of false x n = tt

  pub nothing_taken : (es : List (Entry V)) → IsRangeMap eq low high es → IsClearFrom (at es) l h → AreKeysTaken eq low high l h es es []
  nothing_taken es r free = record {
    left_is = record { range_map = r; content = content; inside = cut_inside eq es es l h content; outside = cut_outside eq es es l h content; kept = λ e i u. i };
    taken_is = chosen (record { runs = one_per_run eq laws [] tt; keys = tt }) (λ k. none_of (holds one k) (at es k) (λ q. let is = holds_ends one k q in free k is.0 is.1));
    inside = λ k from to. subst (λ o. SameOption eq None o) (sym (free k from to)) tt;
    outside = λ k u. refl;
  }
    where
      content : (k : ℤ) → SameOption eq (at es k) (cut_range_at l h (at es) k)
      content k = kept (holds one k) (at es k) (λ q. let is = holds_ends one k q in free k is.0 is.1)

  -- a cut, and the keys that were cut, chosen from the old map
  pub keys_taken : (old left taken : List (Entry V)) → IsRangeCut eq low high l h old left → IsChosen eq low high left_with_right old (one_range l h) taken → AreKeysTaken eq low high l h old left taken
  keys_taken old left taken cut is = record {
    left_is = cut;
    taken_is = is;
    inside = λ k from to. is.right_some k tt (at_in one [] k from to);
    outside = outside;
  }
    where
      outside : (k : ℤ) → (k <ℤ l) ⊎ (h <ℤ k) → at taken k ≡ None
      outside k (inl u) = is_none_by eq (at taken k) (is.right_none k (at_under one [] k u))
      outside k (inr u) = is_none_by eq (at taken k) (is.right_none k (at_over one [] k u))

  -- ---- painted back

  rejoined : (b : Bool) (x : Option V) → option_or (left_with_right x (unit_if b)) (cond b None x) ≡ x
  rejoined true None = refl
  rejoined true (Some v) = refl
  rejoined false None = refl
  rejoined false (Some v) = refl

  back_again : (old left taken back : List (Entry V)) → AreKeysTaken eq low high l h old left taken → IsChosen eq low high right_first left taken back → (k : ℤ) → SameOption eq (at old k) (at back k)
  back_again old left taken back t over k = same_back eq laws (at back k) (at old k)
      (same_trans eq laws (at back k) (right_first (at left k) (at taken k)) (at old k) (over.content k)
      (same_along eq {a = option_or (at taken k) (at left k)} refl (rejoined (holds one k) (at old k))
      (same_or eq (at taken k) (left_with_right (at old k) (at (one_range l h) k)) (at left k) (cut_range_at l h (at old) k) (t.taken_is.content k) (t.left_is.content k))))

module _ {V : Type 0} (eq : V → V → Bool) (laws : IsEquivalence eq) (low high : ℤ) where
  pub taking_is_undone : TakingIsUndone eq low high
  taking_is_undone l h old left taken back r t p =
      let over = painted_over eq laws low high left taken back t.taken_is.range_map (in_turn eq laws low high taken left back t.left_is.range_map p) in
      unique eq laws old back (canonical eq laws old r.runs) (canonical eq laws back over.range_map.runs) (back_again eq laws low high l h old left taken back t over)
