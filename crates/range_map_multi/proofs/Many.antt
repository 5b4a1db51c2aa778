-- What is chosen from many lists.
use Rattle.range_map_multi.proofs.Words.{◌≡◌, ℤ, Bool, true, false, cond, List, ◌∷◌, ◌++◌, [], map, append_assoc, Option, Some, None, is_some, ◌∙◌, sym, ap, IsEquivalence, same_trans, Entry, at, SameOption, SameEntries, left_with_right, IsChosen, content_as, back, row, range_map_as, last_value, has_odd, last_of_odd, IsChosenOfMany, GivesEach}

-- one item more put behind what was made of those before
pub made_more : {A B : Type 0} (f : A → B) (out new : List B) (item : A) (made : B) (left next : List A) (all : List B) → new ≡ out ++ made ∷ [] → made ≡ f item → left ≡ item ∷ next → out ++ map f left ≡ all → new ++ map f next ≡ all
made_more f out new item made left next all n m l i =
    ap (λ xs. xs ++ map f next) n ∙ append_assoc out (made ∷ []) (map f next) ∙ ap (λ x. out ++ x ∷ map f next) m ∙ ap (λ xs. out ++ map f xs) (sym l) ∙ i

module _ {V : Type 0} (eq : V → V → Bool) (laws : IsEquivalence eq) where
  -- the union on the keys that an odd number have
  on_odd : {B : Type 0} (x u : Option V) (y : Option B) (b : Bool) → SameOption eq x u → is_some y ≡ b → SameOption eq (left_with_right x y) (cond b u None)
  on_odd x u None true s h = let no : ⊥ = cc h in absurd no
  on_odd x u None false s h = tt
  on_odd x u (Some y) true s h = s
  on_odd x u (Some y) false s h = let no : ⊥ = cc h in absurd no

module _ {V : Type 0} (eq : V → V → Bool) (laws : IsEquivalence eq) (low high : ℤ) where
  pub difference_of : {B : Type 0} (lists : List (List (Entry V))) (union : List (Entry V)) (odd : List (Entry B)) (new : List (Entry V)) → GivesEach (λ xs x. SameOption eq x (last_value xs)) lists union → ((k : ℤ) → is_some (at odd k) ≡ has_odd (row lists k))
      → IsChosen eq low high left_with_right union odd new → IsChosenOfMany eq low high last_of_odd lists new
  difference_of lists union odd new u o c = record {
    range_map = c.range_map;
    content = λ k. same_trans eq laws (at new k) (left_with_right (at union k) (at odd k)) _ (c.content k) (on_odd eq laws (at union k) (last_value (row lists k)) (at odd k) (has_odd (row lists k)) (u k) (o k));
  }

  -- a list that is like a chosen one
  pub many_as : (choose : List (Option V) → Option V) (lists : List (List (Entry V))) (es fs : List (Entry V)) → IsChosenOfMany eq low high choose lists es → SameEntries eq es fs → IsChosenOfMany eq low high choose lists fs
  many_as choose lists es fs c s = record {
    range_map = range_map_as eq laws low high es fs s c.range_map;
    content = λ k. same_trans eq laws (at fs k) (at es k) (choose (row lists k)) (back eq laws es fs (content_as eq laws es fs s) k) (c.content k);
  }
