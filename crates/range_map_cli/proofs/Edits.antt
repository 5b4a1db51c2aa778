-- A command that a step does: the step's answer is what is printed, and the content is the command's.
use Rattle.range_map_cli.proofs.Words.{◌≡◌, ◌∙◌, ℤ, List, Bool, true, false, cond, not, eqb, codes, refl, sym, ap, Option, Some, None, IfSome, string_bytes, option_map, int_le, ◌&&◌, string_eq, String, Global, mapped_keys, Entry, at, filled_content, painted_content, answer_text, command_done, changed_text, content_after_command, greatest_key, least_key, line, Content, Replies, word_or_dash, content_of, answer, IsStepped, SameAnswer, Step, Paint, Fill, Insert, Remove, PopFirst, PopLast, Clear, KeepBelow, KeepFrom, Or, And, Minus, Xor, AndSet, MinusSet, ComplementWith, Answer, Wrote, Old, Popped, Done}
use Rattle.range_map_cli.proofs.Contents.{content_of-cut, content_of-filled, content_of-painted, same_words, words_if, words_or}
use Rattle.range_map_cli.proofs.Counting.{mapped_count-is}

said : (equal : Bool) → cond (not equal) (codes "true") (codes "false") ≡ cond equal (codes "false") (codes "true")
said true = refl
said false = refl

-- whether the number of keys changed
wrote : (changed : Bool) (content : ℤ → Option (String Global)) (words : Content) (old : List (Entry (String Global))) → ((k : ℤ) → option_map string_bytes (content k) ≡ words k)
    → changed ≡ not (eqb (mapped_keys least_key greatest_key content) (mapped_keys least_key greatest_key (at old))) → answer_text (Wrote changed) ≡ changed_text words (content_of old)
wrote changed content words old same is =
    ap (λ b. answer_text (Wrote b)) is ∙ ap line (said (eqb (mapped_keys least_key greatest_key content) (mapped_keys least_key greatest_key (at old))))
    ∙ ap (λ m. line (cond (eqb m (mapped_keys least_key greatest_key (at old))) (codes "false") (codes "true"))) (mapped_count-is content words same)
    ∙ ap (λ n. line (cond (eqb (mapped_keys least_key greatest_key words) n) (codes "false") (codes "true"))) (mapped_count-is (at old) (content_of old) (λ k. refl))

-- the word that was there
was : (word : Option (String Global)) (old : List (Entry (String Global))) (k : ℤ) → SameAnswer (λ z. z) string_eq (Old word) (Old (at old k)) → answer_text (Old word) ≡ line (word_or_dash (content_of old k))
was word old k same = ap (λ w. line (word_or_dash w)) (same_words word (at old k) same)

module _ {L : Type 0} where
  pub replied : (step : Step ℤ (String Global) L) (old : List (Entry (String Global))) (given : Answer ℤ (String Global)) → SameAnswer (λ z. z) string_eq given (answer (λ z. z) least_key greatest_key step (at old))
      → IfSome (command_done step) (λ command. Replies (content_of old) command (answer_text given))
  replied (Paint lo hi word) old (Wrote changed) same = wrote changed (painted_content lo hi word (at old)) (painted_content lo hi (string_bytes word) (content_of old)) old (λ k. words_if (int_le lo k && int_le k hi) word (at old k)) same
  replied (Paint lo hi word) old (Old was) same = absurd same
  replied (Paint lo hi word) old (Popped pair) same = absurd same
  replied (Paint lo hi word) old Done same = absurd same
  replied (Fill lo hi word) old (Wrote changed) same = wrote changed (filled_content lo hi word (at old)) (filled_content lo hi (string_bytes word) (content_of old)) old (λ k. words_or (int_le lo k && int_le k hi) word (at old k)) same
  replied (Fill lo hi word) old (Old was) same = absurd same
  replied (Fill lo hi word) old (Popped pair) same = absurd same
  replied (Fill lo hi word) old Done same = absurd same
  replied (Insert key word) old (Wrote changed) same = absurd same
  replied (Insert key word) old (Old taken) same = was taken old key same
  replied (Insert key word) old (Popped pair) same = absurd same
  replied (Insert key word) old Done same = absurd same
  replied (Remove key) old (Wrote changed) same = absurd same
  replied (Remove key) old (Old taken) same = was taken old key same
  replied (Remove key) old (Popped pair) same = absurd same
  replied (Remove key) old Done same = absurd same
  replied PopFirst old given same = tt
  replied PopLast old given same = tt
  replied Clear old given same = tt
  replied (KeepBelow key) old given same = tt
  replied (KeepFrom key) old given same = tt
  replied (Or other) old given same = tt
  replied (And other) old given same = tt
  replied (Minus other) old given same = tt
  replied (Xor other) old given same = tt
  replied (AndSet keys) old given same = tt
  replied (MinusSet keys) old given same = tt
  replied (ComplementWith word) old given same = tt

  pub left : (step : Step ℤ (String Global) L) (old new : List (Entry (String Global))) → IsStepped string_eq (λ z. z) least_key greatest_key step old new
      → IfSome (command_done step) (λ command. (k : ℤ) → content_of new k ≡ content_after_command command (content_of old) k)
  left (Paint lo hi word) old new stepped = content_of-painted lo hi word (string_bytes word) old new stepped.content refl
  left (Fill lo hi word) old new stepped = content_of-filled lo hi word (string_bytes word) old new stepped.content refl
  left (Insert key word) old new stepped = content_of-painted key key word (string_bytes word) old new stepped.content refl
  left (Remove key) old new stepped = content_of-cut key old new stepped.content
  left PopFirst old new stepped = tt
  left PopLast old new stepped = tt
  left Clear old new stepped = tt
  left (KeepBelow key) old new stepped = tt
  left (KeepFrom key) old new stepped = tt
  left (Or other) old new stepped = tt
  left (And other) old new stepped = tt
  left (Minus other) old new stepped = tt
  left (Xor other) old new stepped = tt
  left (AndSet keys) old new stepped = tt
  left (MinusSet keys) old new stepped = tt
  left (ComplementWith word) old new stepped = tt
