-- The laws of joins and of the results of closures.
use Rattle.blaze_streams.proofs.Words.{same_value, ◌≡◌, ℤ, ◌≤ℤ◌, Bool, true, false, ◌&&◌, cond, List, [], ◌∷◌, length, map, Option, Some, None, refl, ◌∙◌, sym, subst, ap, arith, option_eq, option_map, is_some, IsEquivalence, lists_equiv, options_equiv, same_itself, is_some_alike, Entry, entry, holds, at, SameOption, SameEntries, IsApart, IsCanonical, canonical_is_unique, IsAbove-from_apart, at_in, at_over, at_before, ints, by_lt_z, canonical, one_per_run, Inner, Left, Full, entries_with_results, as_row, AnswersKeepKeys, LeftJoinHasLeftKeys, FullJoinIsOfListOfTwo, FullJoinIsInner, paired, pair_eq, row_if_any, row_eq}
use Rattle.blaze_streams.proofs.Paired.{pair_laws}

either_some : {V W : Type 0} (b : Bool) (v : V) (w : W) (x : Option V) (y : Option W) → is_some y ≡ is_some x → is_some (cond b (Some w) y) ≡ is_some (cond b (Some v) x)
either_some true v w x y p = refl
either_some false v w x y p = p

answered_keys : {V W : Type 0} (entries : List (Entry V)) (answers : List W) → length answers ≡ length entries → (k : ℤ) → is_some (at (entries_with_results entries answers) k) ≡ is_some (at entries k)
answered_keys [] answers l k = refl
answered_keys (e ∷ es) [] l k = absurd (omega (arith, l))
answered_keys (e ∷ es) (w ∷ ws) l k = either_some (holds e k) e.value w (at es k) (at (entries_with_results es ws) k) (answered_keys es ws (omega (arith, l)) k)

pub answers_keep_keys : (V : Type 0) {W : Type 0} (eq : W → W → Bool) → AnswersKeepKeys V eq
answers_keep_keys V eq entries answers new l same k = is_some_alike eq (at new k) (at (entries_with_results entries answers) k) (same k) ∙ answered_keys entries answers l k

left_there : {A B : Type 0} (x : Option A) (y : Option B) → is_some (paired Left x y) ≡ is_some x
left_there None y = refl
left_there (Some v) y = refl

pub left_join_has_left_keys : {A B : Type 0} (eqa : A → A → Bool) (eqb : B → B → Bool) (low high : ℤ) → LeftJoinHasLeftKeys eqa eqb low high
left_join_has_left_keys eqa eqb low high left right segments j k = ap is_some (j.content k) ∙ left_there (at left k) (at right k)

module _ {A : Type 0} where
  abbrev pub as_list : Option A × Option A → List (Option A)
  as_list p = p.0 ∷ p.1 ∷ []

  either_row : (b : Bool) (v : Option A × Option A) (x : Option (Option A × Option A)) (y : Option (List (Option A))) → y ≡ option_map as_list x → cond b (Some (as_list v)) y ≡ option_map as_list (cond b (Some v) x)
  either_row true v x y p = refl
  either_row false v x y p = p

  pub at_rows : (es : List (Entry (Option A × Option A))) (k : ℤ) → at (map as_row es) k ≡ option_map as_list (at es k)
  at_rows [] k = refl
  at_rows (e ∷ es) k = either_row (holds e k) e.value (at es k) (at (map as_row es) k) (at_rows es k)

module _ {A : Type 0} (eq : A → A → Bool) where
  and_true : (a b : Bool) → (a && (b && true)) ≡ (a && b)
  and_true true true = refl
  and_true true false = refl
  and_true false b = refl

  apart_rows : (e : Entry (Option A × Option A)) (es : List (Entry (Option A × Option A))) → IsApart (pair_eq eq eq) e es → IsApart (row_eq eq) (as_row e) (map as_row es)
  apart_rows e [] a = tt
  apart_rows e (f ∷ fs) a = (a.0, λ p. and_true (option_eq eq e.value.0 f.value.0) (option_eq eq e.value.1 f.value.1) ∙ a.1 p)

  pub canonical_rows : (es : List (Entry (Option A × Option A))) → IsCanonical (pair_eq eq eq) es → IsCanonical (row_eq eq) (map as_row es)
  canonical_rows [] c = tt
  canonical_rows (e ∷ es) c = (c.0, apart_rows e es c.1, canonical_rows es c.2)

  present_pair : (x y : Option A) → option_map as_list (paired Full x y) ≡ row_if_any (x ∷ y ∷ [])
  present_pair None None = refl
  present_pair None (Some w) = refl
  present_pair (Some v) y = refl

  pub full_join_is_of_list_of_two : (laws : IsEquivalence eq) (low high : ℤ) → FullJoinIsOfListOfTwo eq low high
  full_join_is_of_list_of_two laws low high left right segments j = record {
    runs = one_per_run (row_eq eq) (lists_equiv (options_equiv laws)) (map as_row segments) (canonical_rows segments (canonical (pair_eq eq eq) (pair_laws eq eq laws laws) segments j.range_map.runs));
    content = λ k. at_rows segments k ∙ ap (option_map as_list) (j.content k) ∙ present_pair (at left k) (at right k);
  }

-- ---- canonical lists with the same content have the same ranges and values

module _ {V : Type 0} (eq : V → V → Bool) where
  at_rest : (e : Entry V) (es : List (Entry V)) (k : ℤ) → IsCanonical eq (e ∷ es) → k ≤ℤ e.hi → at es k ≡ None
  at_rest e es k c h = at_before eq es e.hi k c.2 (IsAbove-from_apart eq e es c.1) h

  same_list : (L M : List (Entry V)) → IsCanonical eq L → IsCanonical eq M → SameEntries eq L M → ((k : ℤ) → at L k ≡ at M k) → L ≡ M
  same_list [] [] c d s p = refl
  same_list [] (f ∷ fs) c d s p = absurd s
  same_list (e ∷ es) [] c d s p = absurd s
  same_list (e ∷ es) (f ∷ fs) c d s p =
      let value = same_value e.value f.value
      (sym (at_in e es e.lo (omega (arith, ints)) (omega (arith, ints, c.0))) ∙ p e.lo ∙ at_in f fs e.lo (omega (arith, ints, s.0)) (omega (arith, ints, s.0, s.1, c.0))) in
      let first : e ≡ f = ap (λ z. entry z e.hi e.value) s.0 ∙ ap (λ z. entry f.lo z e.value) s.1 ∙ ap (λ z. entry f.lo f.hi z) value in
      let others = same_list es fs c.2 d.2 s.3
      (λ k. by_lt_z e.hi k
      (λ h. sym (at_over e es k h) ∙ p k ∙ at_over f fs k (omega (arith, ints, s.1)))
      (λ h. at_rest e es k c h ∙ sym (at_rest f fs k d (omega (arith, ints, s.1))))) in
      ap (λ z. z ∷ es) first ∙ ap (λ l. f ∷ l) others

full_is_inner : {A B : Type 0} (x : Option A) (y : Option B) → is_some x ≡ is_some y → paired Full x y ≡ paired Inner x y
full_is_inner None None p = refl
full_is_inner None (Some w) p = cc
full_is_inner (Some v) None p = cc
full_is_inner (Some v) (Some w) p = refl

pub full_join_is_inner : {A B : Type 0} (eqa : A → A → Bool) (eqb : B → B → Bool) → IsEquivalence eqa → IsEquivalence eqb → (low high : ℤ) → FullJoinIsInner eqa eqb low high
full_join_is_inner eqa eqb lawsa lawsb low high left right full inner same f i =
    let eq = pair_eq eqa eqb in
    let laws = pair_laws eqa eqb lawsa lawsb in
    let content = λ (k : ℤ). f.content k ∙ full_is_inner (at left k) (at right k) (same k) ∙ sym (i.content k) in
    same_list eq full inner (canonical eq laws full f.range_map.runs) (canonical eq laws inner i.range_map.runs)
    (canonical_is_unique eq laws full inner f.range_map.runs i.range_map.runs (λ k. subst (SameOption eq (at full k)) (content k) (same_itself eq laws (at full k))))
    content
