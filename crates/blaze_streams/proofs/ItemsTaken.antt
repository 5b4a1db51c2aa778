-- A list that is made of the items of another, one by one.
use Rattle.blaze_streams.proofs.Words.{◌≡◌, List, [], ◌∷◌, ◌++◌, ◌∙◌, map, append_assoc, append-nil, sym, ap, map-append}

-- one item more taken from what is left
pub taken_more : {A B : Type 0} (f : A → B) (out new : List A) (item : A) (left next all : List B) → new ≡ out ++ item ∷ [] → left ≡ f item ∷ next → map f out ++ left ≡ all → map f new ++ next ≡ all
taken_more f out new item left next all n l i =
    ap (λ xs. map f xs ++ next) n ∙ ap (λ es. es ++ next) (map-append f out (item ∷ [])) ∙ append_assoc (map f out) (f item ∷ []) next
    ∙ ap (λ es. map f out ++ es) (sym l) ∙ i

-- where nothing is left, what was taken is all
pub taken_all : {A : Type 0} (out left all : List A) → out ++ left ≡ all → left ≡ [] → out ≡ all
taken_all out left all i n = sym (append-nil out) ∙ ap (λ xs. out ++ xs) (sym n) ∙ i
