-- A list that is walked by index.
use Rattle.blaze_entries.proofs.Words.{◌≡◌, ℕ, ◌+◌, suc, ◌<◌, List, ◌∷◌, length, drop, get_or, ◌∙◌, sym, ap, arith, drop-cons}

-- the part of a list from an index on begins with the item at the index
pub from_index : {X : Type 0} (xs : List X) (i : ℕ) (x : X) → i < length xs → x ≡ get_or xs i x → drop i xs ≡ x ∷ drop (i + 1) xs
from_index xs i x l e =
    let one : suc i ≡ i + 1 = omega arith in
    drop-cons xs i x l ∙ ap (λ y. y ∷ drop (suc i) xs) (sym e) ∙ ap (λ n. x ∷ drop n xs) one
