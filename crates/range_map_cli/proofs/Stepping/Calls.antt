-- Calls of an iterator from both ends.
use Rattle.range_map_cli.proofs.Words.{◌≡◌, Bool, true, false, List, [], ◌∷◌, ◌++◌, map, Option, Some, None, refl, ◌∙◌, sym, ap, append_assoc, append-nil, All, All-cons, All-nil, from_front, from_back, given_in_front, given_behind, AreNoneFromNone, EachOnce, TakeAll, Takes}

pub not_behind : {A P : Type 0} (xs : List A) (x : A) → [] ≡ xs ++ x ∷ [] → P
not_behind [] x p = absurd cc
not_behind (y ∷ xs) x p = absurd cc

map_behind : {A B : Type 0} (view : A → B) (xs : List A) (x : A) → map view (xs ++ x ∷ []) ≡ map view xs ++ view x ∷ []
map_behind view [] x = refl
map_behind view (y ∷ xs) x = ap (λ ys. view y ∷ ys) (map_behind view xs x)

module _ {S A B : Type 0} (view : A → B) (left : S → List B) where
  -- where nothing is left a call gives `None`, and leaves nothing
  gives_none : (front : Bool) (given : Option A) (s t : S) → left s ≡ [] → Takes view left front s given t → (given ≡ None) × (left t ≡ [])
  gives_none true None s t n y = (refl, y.1)
  gives_none false None s t n y = (refl, y.1)
  gives_none true (Some x) s t n y = let some : [] ≡ view x ∷ left t = sym n ∙ y in absurd cc
  gives_none false (Some x) s t n y = not_behind (left t) (view x) (sym n ∙ y)

  all_none : (calls : List (Bool × Option A)) (s t : S) → left s ≡ [] → TakeAll view left calls s t → All (λ (later : Bool × Option A). later.1 ≡ None) calls
  all_none [] s t n y = All-nil (λ (later : Bool × Option A). later.1 ≡ None)
  all_none (c ∷ calls) s t n (next, one, more) =
      let none = gives_none c.0 c.1 s next n one in
      All-cons (λ (later : Bool × Option A). later.1 ≡ None) c calls none.0 (all_none calls next t none.1 more)

  leaves_nothing : (front : Bool) (given : Option A) (s t : S) → given ≡ None → Takes view left front s given t → left t ≡ []
  leaves_nothing true None s t p y = y.1
  leaves_nothing false None s t p y = y.1
  leaves_nothing front (Some x) s t p y = absurd cc

  for_good : (calls : List (Bool × Option A)) (s t : S) → TakeAll view left calls s t → AreNoneFromNone calls
  for_good [] s t y = tt
  for_good (c ∷ calls) s t (next, one, more) = (
    λ none. all_none calls next t (leaves_nothing c.0 c.1 s next none one) more,
    for_good calls next t more,
  )

  -- what one call gave, round what the later ones gave
  one_more : (front : Bool) (given : Option A) (s next : S) (ff : List A) (rest : List B) (fb : List A) → Takes view left front s given next → left next ≡ map view ff ++ rest ++ map view fb
      → left s ≡ map view (given_in_front front given ff) ++ rest ++ map view (given_behind front given fb)
  one_more true None s next ff rest fb y p = y.0 ∙ sym y.1 ∙ p
  one_more false None s next ff rest fb y p = y.0 ∙ sym y.1 ∙ p
  one_more true (Some x) s next ff rest fb y p = y ∙ ap (λ xs. view x ∷ xs) p
  one_more false (Some x) s next ff rest fb y p =
      y ∙ ap (λ xs. xs ++ view x ∷ []) p ∙ append_assoc (map view ff ++ rest) (map view fb) (view x ∷ []) ∙ ap (λ xs. map view ff ++ rest ++ xs) (sym (map_behind view fb x))

  parts : (calls : List (Bool × Option A)) (s t : S) → TakeAll view left calls s t → left s ≡ map view (from_front calls) ++ left t ++ map view (from_back calls)
  parts [] s t y = ap left y ∙ sym (append-nil (left t))
  parts (c ∷ calls) s t (next, one, more) = one_more c.0 c.1 s next (from_front calls) (left t) (from_back calls) one (parts calls next t more)

  pub each_once : EachOnce view left
  each_once calls s t y = record { parts = parts calls s t y; for_good = for_good calls s t y }
