-- One list among many: those before it, it, and those behind it.
use Rattle.range_map_multi.proofs.Words.{◌≡◌, ◌<◌, ◌+◌, ℕ, ℤ, Bool, true, false, cond, ◌&&◌, List, [], ◌∷◌, ◌++◌, length, map, take, drop, get_or, Option, Some, None, is_some, refl, ◌∙◌, sym, ap, subst, arith, length-drop, list_all, IsEquivalence, map-append, take-append-drop, list_all-append, same_trans, same_itself, same_or, or_assoc, Entry, at, SameOption, IsRangeMap, right_first, left_with_right, IsChosen, from_index, row, IsUnion, last_value, last_of_all, IsChosenOfMany, with_all, IsOnAll, row_append, last_append, with_alike}

-- what a function gives for the items in front of the one at an index, for it, and for those behind it
pub parted : {A B : Type 0} (f : A → B) (xs front back : List A) (i : ℕ) (x : A) (y : B) → i < length xs → x ≡ get_or xs i x → y ≡ f x → front ≡ take i xs → back ≡ drop (i + 1) xs → map f front ++ y ∷ map f back ≡ map f xs
parted f xs front back i x y l e p h t =
    ap (λ z. map f front ++ z ∷ map f back) p ∙ sym (map-append f front (x ∷ back)) ∙ ap (λ zs. map f (zs ++ x ∷ back)) h ∙ ap (λ zs. map f (take i xs ++ x ∷ zs)) t
    ∙ ap (λ ys. map f (take i xs ++ ys)) (sym (from_index xs i x l e)) ∙ ap (map f) (take-append-drop i xs)

-- the same where the item is the first of those that are cut off at its index
pub parted_at : {A B : Type 0} (f : A → B) (xs front cut behind : List A) (i : ℕ) (x : A) → i < length xs → front ≡ take i xs → cut ≡ drop i xs → x ≡ get_or cut 0 x → behind ≡ drop 1 cut → map f front ++ f x ∷ map f behind ≡ map f xs
parted_at f xs front cut behind i x l h t e b =
    let some : 0 < length cut = omega (arith, l, ap length t, length-drop i xs) in
    sym (map-append f front (x ∷ behind)) ∙ ap (λ zs. map f (zs ++ x ∷ behind)) h ∙ ap (λ zs. map f (take i xs ++ x ∷ zs)) b ∙ ap (λ zs. map f (take i xs ++ zs)) (sym (from_index cut 0 x some e) ∙ t) ∙ ap (map f) (take-append-drop i xs)

module _ {V : Type 0} where
  last_around : (xs : List (Option V)) (y : Option V) (zs : List (Option V)) → right_first (right_first (last_value xs) y) (last_value zs) ≡ last_value (xs ++ y ∷ zs)
  last_around xs y zs = sym (last_append xs (y ∷ zs) ∙ or_assoc (last_value zs) y (last_value xs))

  -- ---- a value where all of a row are there

  with_more : (b : Bool) (x y : Option V) → cond b (left_with_right x y) None ≡ cond (is_some y && b) x None
  with_more true x None = refl
  with_more false x None = refl
  with_more b x (Some y) = refl

  part_with_last_values : (b : Bool) (l y : Option V) → cond (b && (is_some y && true)) (right_first l (last_value (y ∷ []))) None ≡ cond b y None
  part_with_last_values true l None = refl
  part_with_last_values true l (Some y) = refl
  part_with_last_values false l y = refl

  all_last : (xs : List (Option V)) (y : Option V) → last_of_all (xs ++ y ∷ []) ≡ with_all y xs
  all_last xs y =
      ap (λ b. cond b (last_value (xs ++ y ∷ [])) None) (list_all-append is_some xs (y ∷ []))
      ∙ ap (λ o. cond (list_all is_some xs && (is_some y && true)) o None) (last_append xs (y ∷ [])) ∙ part_with_last_values (list_all is_some xs) (last_value xs) y

  with_parts : (b : Bool) (x y : Option V) → left_with_right y (cond b x None) ≡ cond (is_some x && b) y None
  with_parts true None y = refl
  with_parts false None y = refl
  with_parts true (Some x) y = refl
  with_parts false (Some x) y = refl

  with_first : (a b : Bool) (l x m : Option V) → cond (is_some (cond a x None) && b) (right_first (cond a x None) m) None ≡ cond (a && (is_some x && b)) (right_first l (right_first x m)) None
  with_first false b l x m = refl
  with_first true b l None m = refl
  with_first true b l (Some x) None = refl
  with_first true b l (Some x) (Some y) = refl

  all_around : (xs : List (Option V)) (x : Option V) (ys : List (Option V)) → last_of_all (with_all x xs ∷ ys) ≡ last_of_all (xs ++ x ∷ ys)
  all_around xs x ys =
      with_first (list_all is_some xs) (list_all is_some ys) (last_value xs) x (last_value ys) ∙ ap (λ b. cond b (right_first (last_value xs) (last_value (x ∷ ys))) None) (sym (list_all-append is_some xs (x ∷ ys)))
      ∙ ap (λ o. cond (list_all is_some (xs ++ x ∷ ys)) o None) (sym (last_append xs (x ∷ ys)))

module _ {V : Type 0} (eq : V → V → Bool) (laws : IsEquivalence eq) where
  pub all_alike : (b : Bool) (x y : Option V) → SameOption eq x y → SameOption eq (cond b x None) (cond b y None)
  all_alike true x y s = s
  all_alike false x y s = tt

  -- one list more
  pub on_more : (low high : ℤ) (list shared new L : List (Entry V)) (Ls Ms all : List (List (Entry V))) → Ls ≡ L ∷ Ms → IsChosen eq low high left_with_right shared L new
      → ((k : ℤ) → SameOption eq (with_all (at shared k) (row Ls k)) (with_all (at list k) (row all k))) → (k : ℤ) → SameOption eq (with_all (at new k) (row Ms k)) (with_all (at list k) (row all k))
  on_more low high list shared new L Ls Ms all is c i k =
      let b = list_all is_some (row Ms k) in
      let both = left_with_right (at shared k) (at L k) in
      same_trans eq laws (with_all (at new k) (row Ms k)) (with_all both (row Ms k)) _ (all_alike b (at new k) both (c.content k))
      (subst (λ o. SameOption eq o (with_all (at list k) (row all k))) (ap (λ Ns. with_all (at shared k) (row Ns k)) is ∙ sym (with_more b (at shared k) (at L k))) (i k))

  last_alike : (x y : Option V) (zs : List (Option V)) → SameOption eq x y → SameOption eq (last_of_all (x ∷ zs)) (last_of_all (y ∷ zs))
  last_alike None None zs s = tt
  last_alike None (Some y) zs s = absurd s
  last_alike (Some x) None zs s = absurd s
  last_alike (Some x) (Some y) zs s = all_alike (list_all is_some zs) (right_first (Some x) (last_value zs)) (right_first (Some y) (last_value zs)) (same_or eq (last_value zs) (last_value zs) (Some x) (Some y) (same_itself eq laws (last_value zs)) s)

module _ {V : Type 0} (eq : V → V → Bool) (laws : IsEquivalence eq) (low high : ℤ) where
  -- a list alone
  pub last_alone : (list : List (Entry V)) (all : List (List (Entry V))) → all ≡ [] → IsRangeMap eq low high list → IsChosenOfMany eq low high last_of_all (list ∷ all) list
  last_alone list all is m = record {
    range_map = m;
    content = λ k. subst (SameOption eq (at list k)) (sym (ap (λ Ns. last_of_all (at list k ∷ row Ns k)) is ∙ all_last [] (at list k))) (same_itself eq laws (at list k));
  }

  -- the last map's values, on the keys of a list that the maps between have too
  pub last_on : (list : List (Entry V)) (Ms : List (List (Entry V))) (M shared new : List (Entry V)) (all : List (List (Entry V))) → Ms ++ M ∷ [] ≡ all
      → IsOnAll eq list Ms shared → IsChosen eq low high left_with_right M shared new → IsChosenOfMany eq low high last_of_all (list ∷ all) new
  last_on list Ms M shared new all is o c = record {
    range_map = c.range_map;
    content = λ k.
        let both = with_all (at list k) (row Ms k) in
        let same : left_with_right (at M k) both ≡ last_of_all (row (list ∷ all) k) =
        with_parts (list_all is_some (row Ms k)) (at list k) (at M k) ∙ sym (all_last (at list k ∷ row Ms k) (at M k)) ∙ ap (λ r. last_of_all (at list k ∷ r)) (sym (row_append Ms (M ∷ []) k)) ∙ ap (λ Ns. last_of_all (at list k ∷ row Ns k)) is in
        subst (SameOption eq (at new k)) same
        (same_trans eq laws (at new k) (left_with_right (at M k) (at shared k)) _ (c.content k) (with_alike eq laws (at M k) (at M k) (at shared k) both (same_itself eq laws (at M k)) (o k)));
  }

  -- a list of one map's entries on the keys of those before it, with those behind it
  pub intersection_around : (Ls Ms : List (List (Entry V))) (L shared new : List (Entry V)) (all : List (List (Entry V))) → Ls ++ L ∷ Ms ≡ all
      → IsOnAll eq L Ls shared → IsChosenOfMany eq low high last_of_all (shared ∷ Ms) new → IsChosenOfMany eq low high last_of_all all new
  intersection_around Ls Ms L shared new all is o c = record {
    range_map = c.range_map;
    content = λ k.
        let first = with_all (at L k) (row Ls k) in
        let same : last_of_all (first ∷ row Ms k) ≡ last_of_all (row all k) =
        all_around (row Ls k) (at L k) (row Ms k) ∙ ap last_of_all (sym (row_append Ls (L ∷ Ms) k)) ∙ ap (λ Ns. last_of_all (row Ns k)) is in
        subst (SameOption eq (at new k)) same (same_trans eq laws (at new k) (last_of_all (at shared k ∷ row Ms k)) _ (c.content k) (last_alike eq laws (at shared k) first (row Ms k) (o k)));
  }

  -- a map whose gaps those before it fill, and over which those behind it are painted
  pub union_around : (Ls Ms : List (List (Entry V))) (L under filled over new : List (Entry V)) (all : List (List (Entry V))) → Ls ++ L ∷ Ms ≡ all
      → IsChosenOfMany eq low high last_value Ls under → IsUnion eq low high under L filled → IsChosenOfMany eq low high last_value Ms over → IsUnion eq low high filled over new → IsChosenOfMany eq low high last_value all new
  union_around Ls Ms L under filled over new all is u f o n = record {
    range_map = n.chosen.range_map;
    content = λ k.
        let first = right_first (last_value (row Ls k)) (at L k) in
        let there : SameOption eq (at filled k) first = same_trans eq laws (at filled k) (right_first (at under k) (at L k)) first (f.chosen.content k) (same_or eq (at L k) (at L k) (at under k) (last_value (row Ls k)) (same_itself eq laws (at L k)) (u.content k)) in
        let same : right_first first (last_value (row Ms k)) ≡ last_value (row all k) =
        last_around (row Ls k) (at L k) (row Ms k) ∙ ap last_value (sym (row_append Ls (L ∷ Ms) k)) ∙ ap (λ Ns. last_value (row Ns k)) is in
        subst (SameOption eq (at new k)) same
        (same_trans eq laws (at new k) (right_first (at filled k) (at over k)) _ (n.chosen.content k) (same_or eq (at over k) (last_value (row Ms k)) (at filled k) first (o.content k) there));
  }
