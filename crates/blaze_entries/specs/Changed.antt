-- A map's list with one entry changed.
use Rattle.std.specs.Prelude.{Bool, cond, List, [], ◌∷◌}

-- the list, with f applied to the value of the first entry whose key passes the test
abbrev pub changed : {K X : Type 0} → (K → Bool) → (X → X) → List (K × X) → List (K × X)
changed test f [] = []
changed test f (e ∷ es) = cond (test e.0) ((e.0, f e.1) ∷ es) (e ∷ changed test f es)
