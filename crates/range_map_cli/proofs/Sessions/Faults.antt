-- What is written where the writer fails is not the whole output.
use Rattle.range_map_cli.proofs.Words.{◌≡◌, ℕ, List, [], ◌∷◌, ◌++◌, take, drop, take-append-drop, refl, sym, ap, ◌∙◌, subst, append_assoc, append-nil, codes, inl, inr, append_cancel_left, End, lines_of, Lacks, commands_of, no_memory, Ends, IsOutput, Prints}
use Rattle.range_map_cli.specs.declared.End.TheVariants as ends
use Rattle.range_map_cli.proofs.Sessions.Cuts.{Lacks-ends_in, other_head, other_tail}
use Rattle.range_map_cli.proofs.Sessions.Forwarding.{front_none}
use Rattle.range_map_cli.proofs.Sessions.Determined.{bad_text, IsWhole, one_output, output_from, whole_rest}

-- nothing was added
pub no_more : (xs ys : List ℕ) → xs ≡ xs ++ ys → ys ≡ []
no_more xs ys e = append_cancel_left xs ys [] (sym e ∙ sym (append-nil xs))

-- in a text with one LF, at its end, nothing comes after an LF
at_end : (text front rest : List ℕ) → Lacks 10 text → front ++ 10 ∷ rest ≡ text ++ 10 ∷ [] → rest ≡ []
at_end [] [] rest h e = append_cancel_left (10 ∷ []) rest [] e
at_end [] (x ∷ []) rest h e = cc
at_end [] (x ∷ y ∷ front) rest h e = cc
at_end (b ∷ bs) [] rest h e = let other = other_head b 10 bs h in cc
at_end (b ∷ bs) (x ∷ front) rest h e = at_end bs front rest (other_tail b 10 bs h) (ap tail e)
  where
    tail : List ℕ → List ℕ
    tail [] = []
    tail (x ∷ xs) = xs

-- whole lines that begin it and are not all of it are none
begins : (tail rest : List ℕ) → IsWhole tail → tail ++ rest ≡ no_memory → (rest ≡ [] → ⊥) → tail ≡ []
begins tail rest (inl none) e some = none
begins tail rest (inr h) e some = absurd (some (at_end (codes "out of memory") h.0 rest (Lacks-ends_in (codes "out of memory") refl) (sym (append_assoc h.0 (10 ∷ []) rest) ∙ ap (λ l. l ++ rest) (sym h.1) ∙ e)))

-- a beginning, and not all, of what is printed where no write fails
not_whole : (text out rest : List ℕ) (n : ℕ) (end : End) → Prints text n end (out ++ rest) → (rest ≡ [] → ⊥) → IsOutput text out → ⊥
not_whole text out rest n ends.Done h some all = some (no_more out rest (one_output text out (out ++ rest) all h.2))
not_whole text out rest n ends.BadLine h some all = some (no_more out rest (one_output text out (out ++ rest) all h.1))
not_whole text out rest n ends.ReadFault h some all =
    let cs = commands_of (lines_of text) in
    let whole = output_from text out (out ++ rest) (take n cs) (drop n cs) (sym (take-append-drop n cs)) h all in
    some (front_none rest _ (no_more out (rest ++ (whole.0 ++ bad_text text)) (whole.1 ∙ append_assoc out rest _)))
not_whole text out rest n ends.NoMemory h some all =
    let cs = commands_of (lines_of text) in
    let whole = output_from text out h.0 (take n cs) (drop n cs) (sym (take-append-drop n cs)) h.1 all in
    let tail = whole.0 ++ bad_text text in
    let same : tail ++ rest ≡ no_memory = append_cancel_left h.0 (tail ++ rest) no_memory (sym (append_assoc h.0 tail rest) ∙ ap (λ l. l ++ rest) (sym whole.1) ∙ h.2) in
    let none = begins tail rest (whole_rest text whole.0 _ (drop n cs) whole.2) same some in
    h.3 (subst (IsOutput text) (whole.1 ∙ ap (λ l. h.0 ++ l) none ∙ append-nil h.0) all)
not_whole text out rest n ends.WriteFault h some all = h

pub ends_lost : (text out rest : List ℕ) (n : ℕ) (end : End) → Prints text n end (out ++ rest) → (rest ≡ [] → ⊥) → Ends text n ends.WriteFault out
ends_lost text out rest n end h some = (end, rest, h, some, not_whole text out rest n end h some)
