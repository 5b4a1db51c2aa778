-- A closure called at one item after another: its results, and the items that they keep.
use Rattle.blaze_entries.proofs.Words.{◌≡◌, Bool, true, false, List, [], ◌∷◌, ◌++◌, length, refl, sym, subst, ap, arith, items_where_true, ReturnsInTurn}

module _ {F X : Type 0} (R : F → X → Bool → F → Type 0) where
  -- one item more
  pub returns-push : (f g h : F) (bs : List Bool) (xs : List X) (b : Bool) (x : X) → length bs ≡ length xs → ReturnsInTurn R f bs xs g → R g x b h → ReturnsInTurn R f (bs ++ b ∷ []) (xs ++ x ∷ []) h
  returns-push f g h [] [] b x l p r = (h, subst (λ s. R s x b h) (sym p) r, refl)
  returns-push f g h [] (y ∷ ys) b x l p r = absurd (omega arith)
  returns-push f g h (c ∷ bs) [] b x l p r = absurd (omega arith)
  returns-push f g h (c ∷ bs) (y ∷ ys) b x l p r = (p.0, p.1, returns-push p.0 g h bs ys b x (omega arith) p.2 r)

pub picked-push_true : {X : Type 0} (bs : List Bool) (xs : List X) (x : X) → length bs ≡ length xs → items_where_true (bs ++ true ∷ []) (xs ++ x ∷ []) ≡ items_where_true bs xs ++ x ∷ []
picked-push_true [] [] x l = refl
picked-push_true [] (y ∷ ys) x l = absurd (omega arith)
picked-push_true (b ∷ bs) [] x l = absurd (omega arith)
picked-push_true (true ∷ bs) (y ∷ ys) x l = ap (λ zs. y ∷ zs) (picked-push_true bs ys x (omega arith))
picked-push_true (false ∷ bs) (y ∷ ys) x l = picked-push_true bs ys x (omega arith)

pub picked-push_false : {X : Type 0} (bs : List Bool) (xs : List X) (x : X) → length bs ≡ length xs → items_where_true (bs ++ false ∷ []) (xs ++ x ∷ []) ≡ items_where_true bs xs
picked-push_false [] [] x l = refl
picked-push_false [] (y ∷ ys) x l = absurd (omega arith)
picked-push_false (b ∷ bs) [] x l = absurd (omega arith)
picked-push_false (true ∷ bs) (y ∷ ys) x l = ap (λ zs. y ∷ zs) (picked-push_false bs ys x (omega arith))
picked-push_false (false ∷ bs) (y ∷ ys) x l = picked-push_false bs ys x (omega arith)
