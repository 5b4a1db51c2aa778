-- The rows of what is picked from lists.
use Rattle.range_map_multi.proofs.Words.{◌≡◌, ℕ, ◌<◌, ℤ, Bool, true, false, nat_eq, List, [], ◌∷◌, length, map, Option, Some, None, is_some, refl, ◌∙◌, sym, ap, option_map, arith, slice_get, list_all, list_any, option_and_then, nil_from_length, slice_get-map, Entry, shown_option, row, shown_row, shown_full_row, AllPlaced, all_valued, values_at_positions, row_length}
use Rattle.range_map_multi.proofs.Placed.{alike}

pub none_from_empty : {A : Type 0} (xs : List A) (b : Bool) → b ≡ nat_eq (length xs) 0 → b ≡ true → xs ≡ []
none_from_empty xs b p q = nil_from_length xs (grind (arith, p, q))

pub picked_none : {V : Type 0} (vss : List (List V)) → values_at_positions vss [] ≡ []
picked_none [] = refl
picked_none (vs ∷ vss) = refl

pub valued_none : {V : Type 0} (vss : List (List V)) → all_valued vss [] ≡ []
valued_none [] = refl
valued_none (vs ∷ vss) = refl

module _ {A V : Type 0} (shown : A → V) where
  shown_at : (vs : List A) (position : Option ℕ) → shown_option shown (option_and_then (slice_get vs) position) ≡ option_and_then (slice_get (map shown vs)) position
  shown_at vs None = refl
  shown_at vs (Some i) = by_get (slice_get vs i) (slice_get-map shown vs i)
    where
      by_get : (o : Option A) → slice_get (map shown vs) i ≡ option_map shown o → shown_option shown o ≡ slice_get (map shown vs) i
      by_get None p = sym p
      by_get (Some a) p = sym p

  -- what the values of a row are picked from
  pub shown_picked : {B : Type 0} (items : B → List A) (lists : List B) (places : List (Option ℕ)) → shown_row shown (values_at_positions (map items lists) places) ≡ values_at_positions (map (λ v. map shown (items v)) lists) places
  shown_picked items [] places = refl
  shown_picked items (v ∷ vs) [] = refl
  shown_picked items (v ∷ vs) (position ∷ places) =
      ap (λ o. o ∷ shown_row shown (values_at_positions (map items vs) places)) (shown_at (items v) position) ∙ ap (λ l. option_and_then (slice_get (map shown (items v))) position ∷ l) (shown_picked items vs places)

  pub full_is_row : (xs : List A) → shown_full_row shown xs ≡ shown_row shown (map Some xs)
  full_is_row [] = refl
  full_is_row (x ∷ xs) = ap (λ l. Some (shown x) ∷ l) (full_is_row xs)

  pub all_full : (xs : List A) → list_all is_some (shown_full_row shown xs) ≡ true
  all_full [] = refl
  all_full (x ∷ xs) = all_full xs

  pub all_shown : (xs : List (Option A)) → list_all is_some (shown_row shown xs) ≡ list_all is_some xs
  all_shown [] = refl
  all_shown (None ∷ xs) = refl
  all_shown (Some x ∷ xs) = all_shown xs

module _ {A V B : Type 0} (shown : A → V) (items : B → List A) (lists : List B) (places : List (Option ℕ)) where
  -- what the row that is picked shows
  pub picked_shown : (found : List (Option A)) → found ≡ values_at_positions (map items lists) places → shown_row shown found ≡ values_at_positions (map (λ v. map shown (items v)) lists) places
  picked_shown found p = ap (shown_row shown) p ∙ shown_picked shown items lists places

  -- and where all of it is there
  pub picked_full : (full : List A) (found : List (Option A)) → map Some full ≡ found → found ≡ values_at_positions (map items lists) places → shown_full_row shown full ≡ values_at_positions (map (λ v. map shown (items v)) lists) places
  picked_full full found f p = full_is_row shown full ∙ ap (shown_row shown) f ∙ picked_shown found p

  pub asked_full : (full : List A) (found : List (Option A)) → map Some full ≡ found → found ≡ values_at_positions (map items lists) places → list_all is_some (values_at_positions (map (λ v. map shown (items v)) lists) places) ≡ true
  asked_full full found f p = ap (list_all is_some) (sym (picked_full full found f p)) ∙ all_full shown full

  pub asked_not_full : (found : List (Option A)) → list_all is_some found ≡ false → found ≡ values_at_positions (map items lists) places → list_all is_some (values_at_positions (map (λ v. map shown (items v)) lists) places) ≡ false
  asked_not_full found f p = ap (list_all is_some) (sym (picked_shown found p)) ∙ all_shown shown found ∙ f

-- a row that is full and not empty has something
pub full_has_some : {A : Type 0} (r : List (Option A)) → 0 < length r → list_all is_some r ≡ true → list_any is_some r ≡ true
full_has_some [] l p = let no : ⊥ = omega (arith, l) in absurd no
full_has_some (None ∷ r) l p = let no : ⊥ = cc p in absurd no
full_has_some (Some x ∷ r) l p = refl

-- there are as many lists as cursors
pub row_of_some : {V : Type 0} (vss : List (List V)) (Ns : List (List (Entry ℕ))) (Ls : List (List (Entry V))) (k : ℤ) → AllPlaced vss Ns Ls → 0 < length Ns → 0 < length (row Ls k)
row_of_some vss Ns Ls k a l = omega (arith, l, row_length Ls k, (alike vss Ns Ls a).count_left)
