-- The operations between many maps, where there are two.
use Rattle.range_map_multi.proofs.Words.{option_xor, ◌≡◌, ℤ, Bool, List, [], ◌∷◌, length, map, drop, get_or, Option, Some, None, refl, ◌∙◌, sym, ap, subst, arith, IsEquivalence, same_trans, same_back, Entry, at, SameOption, SameEntries, IsRangeMap, left_with_right, IsChosen, canonical, unique, IsUnion, last_value, last_of_all, last_of_odd, IsChosenOfMany, UnionOfTwoIsOr, IntersectionOfTwoIsAnd, SymmetricDifferenceOfTwoIsXor}

-- what a function gives for the two items of a list
pub two_lists : {A B : Type 0} (f : A → B) (xs : List A) (x y : A) (a b : B) → length xs ≡ 2 → x ≡ get_or xs 0 x → y ≡ get_or xs 1 y → a ≡ f x → b ≡ f y → a ∷ b ∷ [] ≡ map f xs
two_lists f [] x y a b n p q s t = let no : ⊥ = omega (arith, n) in absurd no
two_lists f (u ∷ []) x y a b n p q s t = let no : ⊥ = omega (arith, n) in absurd no
two_lists f (u ∷ v ∷ w ∷ xs) x y a b n p q s t = let no : ⊥ = omega (arith, n) in absurd no
two_lists f (u ∷ v ∷ []) x y a b n p q s t = ap (λ o. o ∷ b ∷ []) (s ∙ ap f p) ∙ ap (λ o. f u ∷ o ∷ []) (t ∙ ap f q)

-- the same where the two are taken off the list
pub two_taken : {A B : Type 0} (f : A → B) (xs rest : List A) (x y : A) → length xs ≡ 2 → x ≡ get_or xs 0 x → rest ≡ drop 1 xs → y ≡ get_or rest 0 y → f x ∷ f y ∷ [] ≡ map f xs
two_taken f [] rest x y n p r q = let no : ⊥ = omega (arith, n) in absurd no
two_taken f (u ∷ []) rest x y n p r q = let no : ⊥ = omega (arith, n) in absurd no
two_taken f (u ∷ v ∷ xs) rest x y n p r q = two_lists f (u ∷ v ∷ xs) x y (f x) (f y) n p (q ∙ ap (λ l. get_or l 0 y) r) refl refl

module _ {V : Type 0} where
  all_of_two : (x y : Option V) → last_of_all (x ∷ y ∷ []) ≡ left_with_right y x
  all_of_two None y = refl
  all_of_two (Some x) None = refl
  all_of_two (Some x) (Some y) = refl

  pub odd_of_two : (x y : Option V) → last_of_odd (x ∷ y ∷ []) ≡ option_xor x y
  odd_of_two None None = refl
  odd_of_two None (Some y) = refl
  odd_of_two (Some x) None = refl
  odd_of_two (Some x) (Some y) = refl

module _ {V : Type 0} (eq : V → V → Bool) (laws : IsEquivalence eq) (low high : ℤ) where
  -- two range maps that have like values of one content
  pub one_list : (content : ℤ → Option V) (es fs : List (Entry V)) → IsRangeMap eq low high es → IsRangeMap eq low high fs
      → ((k : ℤ) → SameOption eq (at es k) (content k)) → ((k : ℤ) → SameOption eq (at fs k) (content k)) → SameEntries eq es fs
  one_list content es fs m n s t = unique eq laws es fs (canonical eq laws es m.runs) (canonical eq laws fs n.runs)
      (λ k. same_trans eq laws (at es k) (content k) (at fs k) (s k) (same_back eq laws (at fs k) (content k) (t k)))

  pub union_of_two : UnionOfTwoIsOr eq low high
  union_of_two left right many two m t = one_list _ many two m.range_map t.range_map m.content t.content

  pub intersection_of_two : IntersectionOfTwoIsAnd eq low high
  intersection_of_two left right many two m t = one_list _ many two m.range_map t.range_map
      (λ k. subst (SameOption eq (at many k)) (all_of_two (at left k) (at right k)) (m.content k)) t.content

  pub difference_of_two : SymmetricDifferenceOfTwoIsXor eq low high
  difference_of_two left right many two m t = one_list _ many two m.range_map t.range_map
      (λ k. subst (SameOption eq (at many k)) (odd_of_two (at left k) (at right k)) (m.content k)) t.content

  -- what two maps give, as many
  pub union_as_many : (left right new : List (Entry V)) (all : List (List (Entry V))) → left ∷ right ∷ [] ≡ all → IsUnion eq low high left right new → IsChosenOfMany eq low high last_value all new
  union_as_many left right new all is u = subst (λ Ls. IsChosenOfMany eq low high last_value Ls new) is (record { range_map = u.chosen.range_map; content = u.chosen.content })

  pub difference_as_many : (left right new : List (Entry V)) (all : List (List (Entry V))) → left ∷ right ∷ [] ≡ all → IsChosen eq low high option_xor left right new → IsChosenOfMany eq low high last_of_odd all new
  difference_as_many left right new all is c = subst (λ Ls. IsChosenOfMany eq low high last_of_odd Ls new) is (record {
    range_map = c.range_map;
    content = λ k. subst (SameOption eq (at new k)) (sym (odd_of_two (at left k) (at right k))) (c.content k);
  })
