-- The list after a write through a borrowed node.
use Rattle.blaze_entries.proofs.Words.{◌≡◌, Bool, true, false, List, [], ◌∷◌, cond, refl, ap, Some, None, lookup, set_value, changed}

pub changed_found : {K X : Type 0} (test : K → Bool) (f : X → X) (es : List (K × X)) (v : X) → lookup test es ≡ Some v → set_value test es (f v) ≡ changed test f es
changed_found test f [] v h = refl
changed_found test f (e ∷ es) v h =
    elim (test e.0) as (λ b. cond b (Some e.1) (lookup test es) ≡ Some v → cond b ((e.0, f v) ∷ es) (e ∷ set_value test es (f v)) ≡ cond b ((e.0, f e.1) ∷ es) (e ∷ changed test f es)) [
      | true ↦ λ k. let same : e.1 ≡ v = cc in rw same refl
      | false ↦ λ k. ap (λ t. e ∷ t) (changed_found test f es v k)
    ] h

pub changed_absent : {K X : Type 0} (test : K → Bool) (f : X → X) (es : List (K × X)) → lookup test es ≡ None → changed test f es ≡ es
changed_absent test f [] h = refl
changed_absent test f (e ∷ es) h =
    elim (test e.0) as (λ b. cond b (Some e.1) (lookup test es) ≡ None → cond b ((e.0, f e.1) ∷ es) (e ∷ changed test f es) ≡ e ∷ es) [
      | true ↦ λ k. cc
      | false ↦ λ k. ap (λ t. e ∷ t) (changed_absent test f es k)
    ] h
