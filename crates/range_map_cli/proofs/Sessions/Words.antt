-- What a line asks, by the words that were cut off it.
use Rattle.std.proofs.Common.{◌≡◌, ℕ, ◌<◌, List, [], ◌∷◌, ◌++◌, length, true, false, cond, eqb, refl, ap, ◌∙◌, arith, Bool, None}
use Rattle.std.specs.List.{onto_first}
use Rattle.std.proofs.lemmas.List.Splits.{slice_split_at, slice_split_none}
use Rattle.range_map_cli.specs.Lines.{Lacks}
use Rattle.range_map_cli.specs.Commands.{words_of, command_of, command_of_words}

-- a line that is not empty asks what its words ask
by_words : (line : List ℕ) → 0 < length line → command_of line ≡ command_of_words (words_of line)
by_words [] h = absurd (omega arith)
by_words (b ∷ bs) h = refl

-- the first word is cut off
cut_word : (line word rest : List ℕ) → Lacks 32 word → line ≡ word ++ 32 ∷ rest → words_of line ≡ word ∷ words_of rest
cut_word line word rest h e = ap words_of e ∙ slice_split_at (λ b. eqb b 32) word 32 rest h refl

last_word : (word : List ℕ) → Lacks 32 word → words_of word ≡ word ∷ []
last_word word h = slice_split_none (λ b. eqb b 32) word h

pub one_word : (a : List ℕ) → 0 < length a → Lacks 32 a → command_of a ≡ command_of_words (a ∷ [])
one_word a some h = by_words a some ∙ ap command_of_words (last_word a h)

module _ (line a r : List ℕ) (some : 0 < length line) (no_a : Lacks 32 a) (e : line ≡ a ++ 32 ∷ r) where
  pub two_words : Lacks 32 r → command_of line ≡ command_of_words (a ∷ r ∷ [])
  two_words h = by_words line some ∙ ap command_of_words (cut_word line a r no_a e ∙ ap (λ ws. a ∷ ws) (last_word r h))

  module _ (b s : List ℕ) (no_b : Lacks 32 b) (f : r ≡ b ++ 32 ∷ s) where
    rest_of_two : words_of line ≡ a ∷ b ∷ words_of s
    rest_of_two = cut_word line a r no_a e ∙ ap (λ ws. a ∷ ws) (cut_word r b s no_b f)

    pub three_words : Lacks 32 s → command_of line ≡ command_of_words (a ∷ b ∷ s ∷ [])
    three_words h = by_words line some ∙ ap command_of_words (rest_of_two ∙ ap (λ ws. a ∷ b ∷ ws) (last_word s h))

    module _ (c t : List ℕ) (no_c : Lacks 32 c) (g : s ≡ c ++ 32 ∷ t) where
      rest_of_three : words_of line ≡ a ∷ b ∷ c ∷ words_of t
      rest_of_three = rest_of_two ∙ ap (λ ws. a ∷ b ∷ ws) (cut_word s c t no_c g)

      pub four_words : Lacks 32 t → command_of line ≡ command_of_words (a ∷ b ∷ c ∷ t ∷ [])
      four_words h = by_words line some ∙ ap command_of_words (rest_of_three ∙ ap (λ ws. a ∷ b ∷ c ∷ ws) (last_word t h))

      pub many_words : (d u : List ℕ) → Lacks 32 d → t ≡ d ++ 32 ∷ u → command_of line ≡ None
      many_words d u no_d i = by_words line some ∙ ap command_of_words (rest_of_three ∙ ap (λ ws. a ∷ b ∷ c ∷ ws) (cut_word t d u no_d i)) ∙ five_words d (words_of u) (some_word u)
        where
          -- there is always a word
          onto_some : (test : Bool) (x : ℕ) (ws : List (List ℕ)) → cond test ([] ∷ ws) (onto_first x ws) ≡ [] → ⊥
          onto_some true x ws p = cc
          onto_some false x [] p = cc
          onto_some false x (w ∷ ws) p = cc

          some_word : (bs : List ℕ) → words_of bs ≡ [] → ⊥
          some_word [] p = cc
          some_word (x ∷ xs) p = onto_some (eqb x 32) x (words_of xs) p

          five_words : (d : List ℕ) (ws : List (List ℕ)) → (ws ≡ [] → ⊥) → command_of_words (a ∷ b ∷ c ∷ d ∷ ws) ≡ None
          five_words d [] h = absurd (h refl)
          five_words d (w ∷ ws) h = refl
