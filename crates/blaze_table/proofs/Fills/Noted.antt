-- The joints of a gap, as the code records them.
use Rattle.blaze_table.proofs.Words.{◌≡◌, ℤ, Bool, true, List, [], ◌∷◌, ◌++◌, map, ◌∙◌, sym, subst, ap, inl, inr, Contains, Contains-append_left, Contains-push, Contains-push_cases, IsNoted}
use Rattle.blaze_table.proofs.Fills.TakenBack.{map_last}

pub noted_too : {T : Type 0} (rank : T → ℤ) (old new : List T) (x : T) (k : ℤ) (t : Bool) → rank x ≡ k → new ≡ old ++ x ∷ [] → t ≡ true → IsNoted t k (map rank old) (map rank new)
noted_too rank old new x k t q p s =
    subst (IsNoted t k (map rank old)) (sym (ap (map rank) p ∙ map_last rank old x)) (record {
      kept = λ i h. Contains-append_left (map rank old) (rank x ∷ []) i h;
      noted = λ _. subst (Contains (map rank old ++ rank x ∷ [])) q (Contains-push (map rank old) (rank x));
      only = λ i h. elim (Contains-push_cases (map rank old) (rank x) i h) [ inl r ↦ inl r | inr r ↦ inr (sym r ∙ q, s) ];
    })
