-- The lists of a slice, advanced one by one.
use Rattle.blaze_streams.proofs.Words.{◌≡◌, ℕ, ◌+◌, ◌<◌, ℤ, List, [], ◌∷◌, ◌++◌, length, slice_index_or, slice_set, refl, ◌∙◌, sym, ap, append_assoc, arith, append-nil, length_push, common_steps, set-append_seam, get_or-append_seam, Entry, after, all_after}

module _ {A : Type 0} (t : ℤ) where
  length-all_after : (Ls : List (List (Entry A))) → length (all_after t Ls) ≡ length Ls
  length-all_after [] = refl
  length-all_after (L ∷ Ls) = omega (arith, length-all_after Ls)

  all_after-append : (Ls Ms : List (List (Entry A))) → all_after t (Ls ++ Ms) ≡ all_after t Ls ++ all_after t Ms
  all_after-append [] Ms = refl
  all_after-append (L ∷ Ls) Ms = ap (λ l. after t L ∷ l) (all_after-append Ls Ms)

  -- the first i of the lists have advanced
  pub record IsPartly (all now : List (List (Entry A))) (i : ℕ) : Type 0 where
    pub done : List (List (Entry A))
    pub todo : List (List (Entry A))
    pub whole : all ≡ done ++ todo
    pub partly : now ≡ all_after t done ++ todo
    pub count : length done ≡ i

  pub partly_none : (all : List (List (Entry A))) → IsPartly all all 0
  partly_none all = record { done = []; todo = all; whole = refl; partly = refl; count = refl }

  here : (done todo now : List (List (Entry A))) (y d : List (Entry A)) (i : ℕ) → now ≡ all_after t done ++ y ∷ todo → length done ≡ i → slice_index_or now i d ≡ y
  here done todo now y d i p c =
      ap (λ l. slice_index_or l i d) p
      ∙ ap (λ n. slice_index_or (all_after t done ++ y ∷ todo) n d) (sym c ∙ sym (length-all_after done))
      ∙ get_or-append_seam (all_after t done) y todo d

  pub partly_more : (all now : List (List (Entry A))) (i : ℕ) (d z : List (Entry A)) → IsPartly all now i → i < length all → z ≡ after t (slice_index_or now i d) → IsPartly all (slice_set now i z) (i + 1)
  partly_more all now i d z p l e = by_todo p.todo p.whole p.partly
    where
      by_todo : (todo : List (List (Entry A))) → all ≡ p.done ++ todo → now ≡ all_after t p.done ++ todo → IsPartly all (slice_set now i z) (i + 1)
      by_todo [] w q = let u : length all ≡ length p.done = ap length (w ∙ append-nil p.done) in absurd (omega (arith, u, p.count))
      by_todo (y ∷ ys) w q = record {
        done = p.done ++ y ∷ [];
        todo = ys;
        whole = w ∙ sym (append_assoc p.done (y ∷ []) ys);
        partly = ap (λ n. slice_set n i z) q
            ∙ ap (λ n. slice_set (all_after t p.done ++ y ∷ ys) n z) (sym p.count ∙ sym (length-all_after p.done))
            ∙ set-append_seam (all_after t p.done) y ys z
            ∙ ap (λ x. all_after t p.done ++ x ∷ ys) (e ∙ ap (after t) (here p.done ys now y d i q p.count))
            ∙ sym (append_assoc (all_after t p.done) (after t y ∷ []) ys)
            ∙ ap (λ l. l ++ ys) (sym (all_after-append p.done (y ∷ [])));
        count = simp length_push (omega (arith, p.count));
      }

  pub partly_all : (all now : List (List (Entry A))) (i : ℕ) → IsPartly all now i → i ≡ length all → now ≡ all_after t all
  partly_all all now i p e = by_todo p.todo p.whole p.partly
    where
      by_todo : (todo : List (List (Entry A))) → all ≡ p.done ++ todo → now ≡ all_after t p.done ++ todo → now ≡ all_after t all
      by_todo [] w q = q ∙ append-nil (all_after t p.done) ∙ ap (all_after t) (sym (w ∙ append-nil p.done))
      by_todo (y ∷ ys) w q = let u : length all ≡ length (p.done ++ y ∷ ys) = ap length w in absurd (grind (arith, common_steps, u, p.count, e))
