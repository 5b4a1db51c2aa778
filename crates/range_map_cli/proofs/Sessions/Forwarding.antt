-- What a writer took and what waits, from one step to the next.
use Rattle.range_map_cli.proofs.Words.{◌≡◌, ℕ, List, [], ◌∷◌, ◌++◌, refl, sym, ap, ◌∙◌, append_assoc, append-nil, Option, Appends-trans, Appends, Forwards}

-- where nothing is behind nothing
pub front_none : (xs ys : List ℕ) → xs ++ ys ≡ [] → xs ≡ []
front_none [] ys e = refl
front_none (x ∷ xs) ys e = cc

pub Forwards-all : (a b : Option (List ℕ)) (all waits : List ℕ) → Appends a b all → waits ≡ [] → Forwards a b all waits
Forwards-all a b all waits h none = (all, h, sym (ap (λ l. all ++ l) none ∙ append-nil all))

-- one more text waits
pub Forwards-push : (a b : Option (List ℕ)) (all waits text : List ℕ) → Forwards a b all waits → Forwards a b (all ++ text) (waits ++ text)
Forwards-push a b all waits text h = (h.0, h.1, ap (λ l. l ++ text) h.2 ∙ append_assoc h.0 waits text)

-- the writer took more
pub Forwards-trans : (a b c : Option (List ℕ)) (all waits rest : List ℕ) → Forwards a b all waits → Forwards b c waits rest → Forwards a c all rest
Forwards-trans a b c all waits rest h k =
    (h.0 ++ k.0, Appends-trans a b c h.0 k.0 h.1 k.1, h.2 ∙ ap (λ l. h.0 ++ l) k.2 ∙ sym (append_assoc h.0 k.0 rest))

-- all that waited was written, and then of another text a beginning
pub Forwards-then : (a b c : Option (List ℕ)) (all text rest : List ℕ) → Appends a b all → Forwards b c text rest → Forwards a c (all ++ text) rest
Forwards-then a b c all text rest h k = (all ++ k.0, Appends-trans a b c all k.0 h k.1, ap (λ l. all ++ l) k.2 ∙ sym (append_assoc all k.0 rest))

-- and then all of another text
pub Forwards-both : (a b c : Option (List ℕ)) (all text waits : List ℕ) → Appends a b all → Appends b c text → waits ≡ [] → Forwards a c (all ++ text) waits
Forwards-both a b c all text waits h k none = Forwards-all a c (all ++ text) waits (Appends-trans a b c all text h k) none
