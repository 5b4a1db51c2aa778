-- What is chosen from a row of values, by two parts of it.
use Rattle.blaze_streams.proofs.Words.{option_xor, ◌≡◌, ◌<◌, ℕ, ℤ, Bool, true, false, not, cond, ◌&&◌, suc, List, [], ◌∷◌, ◌++◌, length, map, take, drop, Option, Some, None, is_some, refl, arith, ◌∙◌, sym, ap, subst, list_all, IsEquivalence, map-append, take-append-drop, list_all-append, same_trans, same_or, or_none, or_assoc, is_some_alike, Entry, at, SameOption, right_first, left_with_right, row, last_value, last_of_all, has_odd, GivesEach, GivesBoth}

-- ---- lists

-- the two halves are all
pub halves : {A B : Type 0} (f : A → B) (xs first second : List A) (n : ℕ) → first ≡ take n xs → second ≡ drop n xs → map f first ++ map f second ≡ map f xs
halves f xs first second n a b = sym (map-append f first second) ∙ ap (map f) (ap (λ ys. ys ++ second) a ∙ ap (λ ys. take n xs ++ ys) b ∙ take-append-drop n xs)

-- exactly one of two
abbrev pub one_of : Bool → Bool → Bool
one_of a b = cond a (not b) b

one_not : (a b : Bool) → not (one_of a b) ≡ one_of (not a) b
one_not true true = refl
one_not true false = refl
one_not false true = refl
one_not false false = refl

-- ---- rows of two parts

pub row_append : {A : Type 0} (Ls Ms : List (List (Entry A))) (k : ℤ) → row (Ls ++ Ms) k ≡ row Ls k ++ row Ms k
row_append [] Ms k = refl
row_append (L ∷ Ls) Ms k = ap (λ r. at L k ∷ r) (row_append Ls Ms k)

pub row_length : {A : Type 0} (Ls : List (List (Entry A))) (k : ℤ) → length (row Ls k) ≡ length Ls
row_length [] k = refl
row_length (L ∷ Ls) k = ap suc (row_length Ls k)

-- of two parts, all
pub both_given : {V : Type 0} (gives : List (Option V) → Option V → Type 0) (Ls Ms all : List (List (Entry V))) (left right new : List (Entry V)) → Ls ++ Ms ≡ all → 0 < length Ls → 0 < length Ms
    → GivesEach gives Ls left → GivesEach gives Ms right → GivesBoth gives left right new → GivesEach gives all new
both_given gives Ls Ms all left right new is a b l r c k =
    subst (λ xs. gives xs (at new k)) (sym (row_append Ls Ms k) ∙ ap (λ Ns. row Ns k) is)
    (c k (row Ls k) (row Ms k) (subst (λ n. 0 < n) (sym (row_length Ls k)) a) (subst (λ n. 0 < n) (sym (row_length Ms k)) b) (l k) (r k))

module _ {V : Type 0} where
  pub last_append : (xs ys : List (Option V)) → last_value (xs ++ ys) ≡ right_first (last_value xs) (last_value ys)
  last_append [] ys = sym (or_none (last_value ys))
  last_append (x ∷ xs) ys = ap (right_first x) (last_append xs ys) ∙ or_assoc (last_value ys) (last_value xs) x

  -- where all of a row that is not empty have a value, there is a last
  pub first_some : (x y : Option V) → is_some x ≡ true → is_some (right_first x y) ≡ true
  first_some x None h = h
  first_some x (Some y) h = refl

  has_last : (xs : List (Option V)) → 0 < length xs → list_all is_some xs ≡ true → is_some (last_value xs) ≡ true
  has_last [] l h = let no : ⊥ = omega (arith, l) in absurd no
  has_last (None ∷ xs) l h = let no : ⊥ = cc h in absurd no
  has_last (Some x ∷ xs) l h = first_some (Some x) (last_value xs) refl

  with_both : (a b : Bool) (x y : Option V) → (a ≡ true → is_some x ≡ true) → (b ≡ true → is_some y ≡ true)
      → cond (a && b) (right_first x y) None ≡ left_with_right (cond b y None) (cond a x None)
  with_both false b x y f g = refl
  with_both true b None y f g = let no : ⊥ = cc (f refl) in absurd no
  with_both true false (Some x) y f g = refl
  with_both true true (Some x) None f g = let no : ⊥ = cc (g refl) in absurd no
  with_both true true (Some x) (Some y) f g = refl

  pub all_append : (xs ys : List (Option V)) → 0 < length xs → 0 < length ys → last_of_all (xs ++ ys) ≡ left_with_right (last_of_all ys) (last_of_all xs)
  all_append xs ys l m =
      ap (λ b. cond b (last_value (xs ++ ys)) None) (list_all-append is_some xs ys)
      ∙ ap (λ o. cond (list_all is_some xs && list_all is_some ys) o None) (last_append xs ys)
      ∙ with_both (list_all is_some xs) (list_all is_some ys) (last_value xs) (last_value ys) (has_last xs l) (has_last ys m)

  -- ---- the keys that an odd number have

  pub odd_append : (xs ys : List (Option V)) → has_odd (xs ++ ys) ≡ one_of (has_odd xs) (has_odd ys)
  odd_append [] ys = refl
  odd_append (None ∷ xs) ys = odd_append xs ys
  odd_append (Some x ∷ xs) ys = ap not (odd_append xs ys) ∙ one_not (has_odd xs) (has_odd ys)

  one_there : (x y : Option V) → is_some (option_xor x y) ≡ one_of (is_some x) (is_some y)
  one_there None y = refl
  one_there (Some x) None = refl
  one_there (Some x) (Some y) = refl

  pub odd_given : (eq : V → V → Bool) (left right new : List (Entry V)) → ((k : ℤ) → SameOption eq (at new k) (option_xor (at left k) (at right k))) → GivesBoth (λ xs x. is_some x ≡ has_odd xs) left right new
  odd_given eq left right new c k xs ys a b l r =
      is_some_alike eq (at new k) (option_xor (at left k) (at right k)) (c k) ∙ one_there (at left k) (at right k)
      ∙ ap (λ b. one_of b (is_some (at right k))) l ∙ ap (one_of (has_odd xs)) r ∙ sym (odd_append xs ys)

-- ---- what is chosen from two parts

module _ {V : Type 0} (eq : V → V → Bool) (laws : IsEquivalence eq) where
  pub with_alike : (x x' y y' : Option V) → SameOption eq x x' → SameOption eq y y' → SameOption eq (left_with_right x y) (left_with_right x' y')
  with_alike x x' None None s t = tt
  with_alike x x' None (Some y') s t = absurd t
  with_alike x x' (Some y) None s t = absurd t
  with_alike x x' (Some y) (Some y') s t = s

  pub union_given : (left right new : List (Entry V)) → ((k : ℤ) → SameOption eq (at new k) (right_first (at left k) (at right k))) → GivesBoth (λ xs x. SameOption eq x (last_value xs)) left right new
  union_given left right new c k xs ys a b l r =
      subst (SameOption eq (at new k)) (sym (last_append xs ys))
      (same_trans eq laws (at new k) (right_first (at left k) (at right k)) _ (c k) (same_or eq (at right k) (last_value ys) (at left k) (last_value xs) r l))

  pub intersection_given : (left right new : List (Entry V)) → ((k : ℤ) → SameOption eq (at new k) (left_with_right (at right k) (at left k))) → GivesBoth (λ xs x. SameOption eq x (last_of_all xs)) left right new
  intersection_given left right new c k xs ys a b l r =
      subst (SameOption eq (at new k)) (sym (all_append xs ys a b))
      (same_trans eq laws (at new k) (left_with_right (at right k) (at left k)) _ (c k) (with_alike (at right k) (last_of_all ys) (at left k) (last_of_all xs) r l))
