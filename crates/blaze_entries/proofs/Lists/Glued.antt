-- Glued lists, split at the last entry of the first list.
use Rattle.blaze_entries.proofs.Words.{◌≡◌, ℤ, ◌<ℤ◌, Bool, true, false, cond, List, [], ◌∷◌, ◌++◌, refl, ◌∙◌, sym, ap, Entry, entry, is_joinable, join, glue, IsBelow, ◌&&◌}
use Rattle.std.proofs.Common.{append_assoc}

-- two tests, from the result of each
pub and_both : (a b : Bool) → true ≡ a → true ≡ b → (a && b) ≡ true
and_both true b p q = sym q
and_both false b p q = sym p

module _ {V : Type 0} (eq : V → V → Bool) where
  -- a list is glued at its last entry
  pub glue-last : (xs : List (Entry V)) (e : Entry V) (M : List (Entry V)) → glue eq (xs ++ e ∷ []) M ≡ xs ++ join eq e M
  glue-last [] e M = refl
  glue-last (x ∷ []) e M = refl
  glue-last (x ∷ y ∷ xs) e M = ap (λ L. x ∷ L) (glue-last (y ∷ xs) e M)

  -- it precedes another entry unchanged if the two do not touch with equal values
  pub glue-apart : (xs : List (Entry V)) (e f : Entry V) → is_joinable eq e f ≡ false → glue eq (xs ++ e ∷ []) (f ∷ []) ≡ (xs ++ e ∷ []) ++ f ∷ []
  glue-apart xs e f j = glue-last xs e (f ∷ []) ∙ ap (λ b. xs ++ cond b (entry e.lo f.hi e.value ∷ []) (e ∷ f ∷ [])) j ∙ sym (append_assoc xs (e ∷ []) (f ∷ []))

  -- it is joined with another entry if the two touch with equal values
  pub glue-joined : (xs : List (Entry V)) (e f : Entry V) → is_joinable eq e f ≡ true → glue eq (xs ++ e ∷ []) (f ∷ []) ≡ xs ++ entry e.lo f.hi e.value ∷ []
  glue-joined xs e f j = glue-last xs e (f ∷ []) ∙ ap (λ b. xs ++ cond b (entry e.lo f.hi e.value ∷ []) (e ∷ f ∷ [])) j

pub IsBelow-push : {V : Type 0} (b : ℤ) (xs : List (Entry V)) (e : Entry V) → IsBelow b xs → e.hi <ℤ b → IsBelow b (xs ++ e ∷ [])
IsBelow-push b [] e h l = (l, tt)
IsBelow-push b (x ∷ xs) e h l = (h.0, IsBelow-push b xs e h.1 l)
