-- The symmetric difference of many lists, by one of them, those before it and those behind it; and two lists as many.
use Rattle.range_map_multi.proofs.Words.{option_xor, ◌≡◌, ℤ, Bool, true, false, not, cond, List, [], ◌∷◌, ◌++◌, append_assoc, Option, Some, None, is_some, refl, ◌∙◌, sym, ap, subst, IsEquivalence, same_trans, same_itself, same_or, or_none, Entry, at, SameOption, right_first, left_with_right, IsChosen, row, IsUnion, last_value, has_odd, last_of_odd, IsChosenOfMany, one_of, row_append, last_append, first_some, odd_append, with_alike}
use Rattle.range_map_multi.proofs.Around.{all_alike}
use Rattle.range_map_multi.proofs.OfTwo.{odd_of_two}

module _ {V : Type 0} where
  -- where an odd number of a row have a value, there is a last
  odd_last : (xs : List (Option V)) → has_odd xs ≡ true → is_some (last_value xs) ≡ true
  odd_last [] h = cc h
  odd_last (None ∷ xs) h = ap is_some (or_none (last_value xs)) ∙ odd_last xs h
  odd_last (Some x ∷ xs) h = first_some (Some x) (last_value xs) refl

  -- the last of a value and a row, where an odd number are there; for the row it is told whether it is odd, and its last
  abbrev with_odd : Option V → Bool → Option V → Option V
  with_odd None b l = cond b (right_first None l) None
  with_odd (Some x) b l = cond (not b) (right_first (Some x) l) None

  odd_first : (x : Option V) (ys : List (Option V)) → with_odd x (has_odd ys) (last_value ys) ≡ last_of_odd (x ∷ ys)
  odd_first None ys = refl
  odd_first (Some x) ys = refl

  both_parts : (a b : Bool) (l m : Option V) → (a ≡ true → is_some l ≡ true) → (b ≡ true → is_some m ≡ true) → cond (one_of a b) (right_first l m) None ≡ with_odd (cond a l None) b m
  both_parts true b None m f g = let no : ⊥ = cc (f refl) in absurd no
  both_parts true b (Some x) m f g = refl
  both_parts false false l m f g = refl
  both_parts false true l None f g = let no : ⊥ = cc (g refl) in absurd no
  both_parts false true l (Some y) f g = refl

  -- the front of a row, made one value
  odd_parts : (xs ys : List (Option V)) → last_of_odd (xs ++ ys) ≡ last_of_odd (last_of_odd xs ∷ ys)
  odd_parts xs ys =
      ap (λ b. cond b (last_value (xs ++ ys)) None) (odd_append xs ys) ∙ ap (λ o. cond (one_of (has_odd xs) (has_odd ys)) o None) (last_append xs ys)
      ∙ both_parts (has_odd xs) (has_odd ys) (last_value xs) (last_value ys) (odd_last xs) (odd_last ys) ∙ odd_first (last_of_odd xs) ys

  odd_around : (xs : List (Option V)) (y : Option V) (zs : List (Option V)) → last_of_odd (option_xor (last_of_odd xs) y ∷ zs) ≡ last_of_odd (xs ++ y ∷ zs)
  odd_around xs y zs =
      ap (λ o. last_of_odd (o ∷ zs)) (sym (odd_parts xs (y ∷ []) ∙ odd_of_two (last_of_odd xs) y)) ∙ sym (odd_parts (xs ++ y ∷ []) zs) ∙ ap last_of_odd (append_assoc xs (y ∷ []) zs)

  -- a value that the last of a row replaces, and the row where an odd number are there
  replaced : (x l : Option V) (b : Bool) → (b ≡ true → is_some l ≡ true) → option_xor (right_first x (left_with_right l x)) (cond b l None) ≡ with_odd x b l
  replaced x None true f = let no : ⊥ = cc (f refl) in absurd no
  replaced None l false f = refl
  replaced None (Some y) true f = refl
  replaced (Some x) None false f = refl
  replaced (Some x) (Some y) false f = refl
  replaced (Some x) (Some y) true f = refl

module _ {V : Type 0} (eq : V → V → Bool) (laws : IsEquivalence eq) where
  same_xor : (a b c d : Option V) → SameOption eq a b → SameOption eq c d → SameOption eq (option_xor a c) (option_xor b d)
  same_xor None (Some y) c d s t = absurd s
  same_xor (Some x) None c d s t = absurd s
  same_xor a b None (Some w) s t = absurd t
  same_xor a b (Some z) None s t = absurd t
  same_xor None None None None s t = tt
  same_xor None None (Some z) (Some w) s t = t
  same_xor (Some x) (Some y) None None s t = s
  same_xor (Some x) (Some y) (Some z) (Some w) s t = tt

  odd_alike : (x y : Option V) (zs : List (Option V)) → SameOption eq x y → SameOption eq (last_of_odd (x ∷ zs)) (last_of_odd (y ∷ zs))
  odd_alike None None zs s = same_itself eq laws (last_of_odd (None ∷ zs))
  odd_alike None (Some y) zs s = absurd s
  odd_alike (Some x) None zs s = absurd s
  odd_alike (Some x) (Some y) zs s = all_alike eq laws (not (has_odd zs)) (right_first (Some x) (last_value zs)) (right_first (Some y) (last_value zs)) (same_or eq (last_value zs) (last_value zs) (Some x) (Some y) (same_itself eq laws (last_value zs)) s)

module _ {V : Type 0} (eq : V → V → Bool) (laws : IsEquivalence eq) (low high : ℤ) where
  -- a list, and those behind it
  pub difference_with : (Ms : List (List (Entry V))) (L union last over odd new : List (Entry V)) → IsChosenOfMany eq low high last_value Ms union → IsChosen eq low high left_with_right union L last
      → IsUnion eq low high L last over → IsChosenOfMany eq low high last_of_odd Ms odd → IsChosen eq low high option_xor over odd new → IsChosenOfMany eq low high last_of_odd (L ∷ Ms) new
  difference_with Ms L union last over odd new u l o d n = record {
    range_map = n.range_map;
    content = λ k.
        let ys = row Ms k in
        let x = at L k in
        let on : Option V = left_with_right (last_value ys) x in
        let there : SameOption eq (at last k) on = same_trans eq laws (at last k) (left_with_right (at union k) x) on (l.content k) (with_alike eq laws (at union k) (last_value ys) x x (u.content k) (same_itself eq laws x)) in
        let first : Option V = right_first x on in
        let whole : SameOption eq (at over k) first = same_trans eq laws (at over k) (right_first x (at last k)) first (o.chosen.content k) (same_or eq (at last k) on x x there (same_itself eq laws x)) in
        subst (SameOption eq (at new k)) (replaced x (last_value ys) (has_odd ys) (odd_last ys) ∙ odd_first x ys)
        (same_trans eq laws (at new k) (option_xor (at over k) (at odd k)) (option_xor first (last_of_odd ys)) (n.content k) (same_xor eq laws (at over k) first (at odd k) (last_of_odd ys) whole (d.content k)));
  }

  -- a list with those before it, and those behind it
  pub difference_around : (Ls Ms : List (List (Entry V))) (L before first new : List (Entry V)) (all : List (List (Entry V))) → Ls ++ L ∷ Ms ≡ all
      → IsChosenOfMany eq low high last_of_odd Ls before → IsChosen eq low high option_xor before L first → IsChosenOfMany eq low high last_of_odd (first ∷ Ms) new → IsChosenOfMany eq low high last_of_odd all new
  difference_around Ls Ms L before first new all is b f n = record {
    range_map = n.range_map;
    content = λ k.
        let x = option_xor (last_of_odd (row Ls k)) (at L k) in
        let there : SameOption eq (at first k) x = same_trans eq laws (at first k) (option_xor (at before k) (at L k)) x (f.content k) (same_xor eq laws (at before k) (last_of_odd (row Ls k)) (at L k) (at L k) (b.content k) (same_itself eq laws (at L k))) in
        let same : last_of_odd (x ∷ row Ms k) ≡ last_of_odd (row all k) =
        odd_around (row Ls k) (at L k) (row Ms k) ∙ ap last_of_odd (sym (row_append Ls (L ∷ Ms) k)) ∙ ap (λ Ns. last_of_odd (row Ns k)) is in
        subst (SameOption eq (at new k)) same (same_trans eq laws (at new k) (last_of_odd (at first k ∷ row Ms k)) _ (n.content k) (odd_alike eq laws (at first k) x (row Ms k) there));
  }
