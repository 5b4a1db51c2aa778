-- What a call makes of the items that an iterator gives, it makes of the list that the iterator yields, as that of a slice.
use Rattle.std.proofs.Common.{◌≡◌, List, [], ◌∷◌, ◌∙◌, Option, map, refl, ap, subst, Bor}
use Rattle.std.proofs.lemmas.Iterator.{items_from_drains, YieldsList}
use Rattle.std.specs.Iterator.{Drains}

mapped_twice : {X Y : Type 0} (show : X → Y) (items : List (Bor X)) → map (λ p. show p.now) items ≡ map show (map (λ p. p.now) items)
mapped_twice show [] = refl
mapped_twice show (p ∷ items) = ap (λ ys. show p.now ∷ ys) (mapped_twice show items)

-- `YieldsList-from_slice` of std says what a slice's iterator yields
pub of_list : {S X Y : Type 0} {steps : S → Option (Bor X) → S → Type 0} (show : X → Y) (P : List Y → Type 0) (list : List X) (it : S) (items : List (Bor X)) → YieldsList steps (λ p. p.now) it list → Drains steps it items → P (map (λ p. show p.now) items) → P (map show list)
of_list show P list it items yields drains made =
    subst P (mapped_twice show items ∙ ap (map show) (items_from_drains items (drains.1.0, drains.1.1, λ u. (drains.0, drains.1.2)) yields)) made
