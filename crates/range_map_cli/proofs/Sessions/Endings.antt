-- What a session has printed where it ends.
use Rattle.range_map_cli.proofs.Words.{◌≡◌, ℕ, suc, ◌+◌, ◌-◌, ◌^◌, List, [], ◌∷◌, ◌++◌, length, take, true, false, cond, refl, sym, ap, ◌∙◌, subst, arith, append_assoc, append-nil, add-one, length-append, Option, Some, None, min, codes, decimal, Appends-trans, Appends, Session, End, lines_of, ends_in, Blank, Command, command_of, empty_content, Replies, commands_of, has_bad, with_command, bad_or, Answers, AnswersFirst, error_line, no_memory, IsOutput, Prints, Closes, content_of, HasWords, Forwards, IsAt}
use Rattle.range_map_cli.specs.declared.End.TheVariants as ends
use Rattle.range_map_cli.proofs.Sessions.Cuts.{nothing_kept, ends_in-append}
use Rattle.range_map_cli.proofs.Sessions.Determined.{bad_text, output_from, some_error, some_reply}
use Rattle.range_map_cli.proofs.Sessions.Faults.{ends_lost, no_more}
use Rattle.range_map_cli.proofs.Sessions.Forwarding.{front_none, Forwards-push, Forwards-trans}
use Rattle.range_map_cli.proofs.Sessions.Progress.{asked_here, bad_here, asked_next, answered_next, answers_first, first_answers}

-- all that was to be written was written
pub closes_all : (held now later : Option (List ℕ)) (text out bytes : List ℕ) (n : ℕ) (end : End) → Appends held now out → Prints text n end (out ++ bytes) → Forwards now later bytes [] → Closes held later text n end
closes_all held now later text out bytes n end first prints h = closes end (subst (Prints text n end) (ap (λ l. out ++ l) (h.2 ∙ append-nil h.0)) prints)
  where
    wrote : Appends held later (out ++ h.0)
    wrote = Appends-trans held now later out h.0 first h.1

    closes : (end : End) → Prints text n end (out ++ h.0) → Closes held later text n end
    closes ends.Done p = (out ++ h.0, wrote, p)
    closes ends.BadLine p = (out ++ h.0, wrote, p)
    closes ends.NoMemory p = (out ++ h.0, wrote, p)
    closes ends.ReadFault p = (out ++ h.0, wrote, p)
    closes ends.WriteFault p = absurd p

-- the writer failed in it
pub closes_lost : (held now later : Option (List ℕ)) (text out bytes lost : List ℕ) (n : ℕ) (end : End) → Appends held now out → Prints text n end (out ++ bytes) → Forwards now later bytes lost → (lost ≡ [] → ⊥) → Closes held later text n ends.WriteFault
closes_lost held now later text out bytes lost n end first prints h some =
    (out ++ h.0, Appends-trans held now later out h.0 first h.1, ends_lost text (out ++ h.0) lost n end (subst (Prints text n end) (ap (λ l. out ++ l) h.2 ∙ sym (append_assoc out h.0 lost)) prints) some)

-- a last text, behind what waits
module _ (held now : Option (List ℕ)) (text : List ℕ) (session : Session) (rest : List ℕ) (lines : ℕ) (at : IsAt held now text session rest lines) where
  pub behind : (n : ℕ) (end : End) (bytes : List ℕ) → Prints text n end (at.answers ++ bytes) → Prints text n end (at.forwards.0 ++ (session.waiting.items ++ bytes))
  behind n end bytes h = subst (Prints text n end) (ap (λ l. l ++ bytes) at.forwards.2 ∙ append_assoc at.forwards.0 session.waiting.items bytes) h

  -- what waits could not be written
  pub closes_waiting : (later : Option (List ℕ)) (lost : List ℕ) → Forwards now later session.waiting.items lost → (lost ≡ [] → ⊥) → Closes held later text (length at.commands) ends.WriteFault
  closes_waiting later lost h some =
      let all = Forwards-trans held now later at.answers session.waiting.items lost at.forwards h in
      (all.0, all.1, ends_lost text all.0 lost (length at.commands) ends.ReadFault (subst (AnswersFirst (length at.commands) text) all.2 (answers_first held now text session rest lines at)) some)

-- good lines have as many commands
good_lines : (lines : List (List ℕ)) → has_bad lines ≡ false → length (commands_of lines) ≡ length lines
good_lines [] h = refl
good_lines (line ∷ lines) h = by_command (command_of line) h (λ good. good_lines lines good)
  where
    by_command : (o : Option Command) → bad_or o (has_bad lines) ≡ false → (has_bad lines ≡ false → length (commands_of lines) ≡ length lines) → length (with_command o (commands_of lines)) ≡ suc (length lines)
    by_command None g later = cc
    by_command (Some command) g later = ap suc (later g)

-- a bad line comes right after the good ones
bad_line : (lines : List (List ℕ)) → has_bad lines ≡ true → has_bad (take (suc (length (commands_of lines))) lines) ≡ true
bad_line [] h = cc
bad_line (line ∷ lines) h = by_command (command_of line) h (λ bad. bad_line lines bad)
  where
    by_command : (o : Option Command) → bad_or o (has_bad lines) ≡ true → (has_bad lines ≡ true → has_bad (take (suc (length (commands_of lines))) lines) ≡ true) → bad_or o (has_bad (take (length (with_command o (commands_of lines))) lines)) ≡ true
    by_command None g later = refl
    by_command (Some command) g later = later g

-- the end of the text
pub prints_done : (held now : Option (List ℕ)) (text : List ℕ) (session : Session) (lines : ℕ) (at : IsAt held now text session [] lines) → session.line ≡ [] → Prints text lines ends.Done (at.answers ++ [])
prints_done held now text session lines at empty =
    let none : at.partial ≡ [] = nothing_kept at.partial session.line at.kept empty in
    let command_of_request : commands_of (lines_of text) ≡ at.commands = at.asked ∙ ap (λ p. at.commands ++ commands_of (lines_of (p ++ []))) none ∙ append-nil at.commands in
    let good : has_bad (lines_of text) ≡ false = at.bad ∙ ap (λ p. has_bad (lines_of (p ++ []))) none in
    let none_left : ends_in [] ≡ 0 = refl in
    (omega (arith, at.counted, none_left, ap length command_of_request, good_lines (lines_of text) good), good, (at.answers, subst (λ cs. Answers empty_content cs at.answers) (sym command_of_request) at.answered, ap (λ b. at.answers ++ cond b (error_line (length (commands_of (lines_of text)))) []) (sym good)))

module _ (held now : Option (List ℕ)) (text : List ℕ) (session : Session) (rest : List ℕ) (lines : ℕ) (at : IsAt held now text session (10 ∷ rest) lines) where
  -- the line ends before the rest
  pub one_more : length at.commands + 1 + ends_in rest ≡ lines
  one_more = let one : ends_in (10 ∷ []) ≡ 1 = refl in omega (arith, at.counted, one, ends_in-append (10 ∷ []) rest)

  -- memory is refused in the answer to a line that is not empty
  pub prints_no_memory : (command_of session.line ≡ Some Blank → ⊥) → Prints text (length at.commands) ends.NoMemory (at.answers ++ no_memory)
  prints_no_memory some = (at.answers, answers_first held now text session (10 ∷ rest) lines at, refl, λ all. more all (command_of session.line) (asked_here held now text session rest lines at) (bad_here held now text session rest lines at) some)
    where
      more : IsOutput text at.answers → (o : Option Command) → commands_of (lines_of text) ≡ at.commands ++ with_command o (commands_of (lines_of rest)) → has_bad (lines_of text) ≡ bad_or o (has_bad (lines_of rest)) → (o ≡ Some Blank → ⊥) → ⊥
      more all None command_of_request bad some = let whole = output_from text at.answers at.answers at.commands [] command_of_request at.answered all in absurd (some_error text whole.0 bad (no_more at.answers (whole.0 ++ bad_text text) whole.1))
      more all (Some command) command_of_request bad some =
          let whole = output_from text at.answers at.answers at.commands (command ∷ commands_of (lines_of rest)) command_of_request at.answered all in
          some_reply _ command (commands_of (lines_of rest)) whole.0 whole.2 (λ blank. some (ap Some blank)) (front_none whole.0 (bad_text text) (no_more at.answers (whole.0 ++ bad_text text) whole.1))

  -- the line is bad
  pub prints_bad : (bytes : List ℕ) → command_of session.line ≡ None → bytes ≡ codes "error line " ++ (decimal (min (session.number + 1) (2 ^ 64 - 1)) ++ codes "\n") → Prints text (length at.commands + 1) ends.BadLine (at.answers ++ bytes)
  prints_bad bytes is written =
      let command_of_request : commands_of (lines_of text) ≡ at.commands = asked_here held now text session rest lines at ∙ ap (λ o. at.commands ++ with_command o (commands_of (lines_of rest))) is ∙ append-nil at.commands in
      let bad : has_bad (lines_of text) ≡ true = bad_here held now text session rest lines at ∙ ap (λ o. bad_or o (has_bad (lines_of rest))) is in
      let number : min (session.number + 1) (2 ^ 64 - 1) ≡ min (length (commands_of (lines_of text)) + 1) (2 ^ 64 - 1) = saturated _ _ _ at.number (ap length command_of_request) in
      let same : bytes ≡ error_line (length (commands_of (lines_of text))) = written ∙ ap (λ n. codes "error line " ++ (decimal n ++ codes "\n")) number ∙ sym (append_assoc (codes "error line ") _ (codes "\n")) in
      (ap (λ n. has_bad (take n (lines_of text))) (add-one _ ∙ ap suc (sym (ap length command_of_request))) ∙ bad_line (lines_of text) bad, (at.answers, subst (λ cs. Answers empty_content cs at.answers) (sym command_of_request) at.answered, ap (λ l. at.answers ++ l) same ∙ ap (λ b. at.answers ++ cond b (error_line (length (commands_of (lines_of text)))) []) (sym bad)))
    where
      saturated : (n m k : ℕ) → m ≡ min n (2 ^ 64 - 1) → k ≡ n → min (m + 1) (2 ^ 64 - 1) ≡ min (k + 1) (2 ^ 64 - 1)
      saturated n m k e f = omega (arith, e, f)

  -- the reply could not be written
  pub closes_reply : (later : Option (List ℕ)) (command : Command) (reply lost : List ℕ) → command_of session.line ≡ Some command
      → (HasWords (content_of session.map.entries) → Replies (content_of session.map.entries) command reply) → Forwards now later (session.waiting.items ++ reply) lost → (lost ≡ [] → ⊥) → Closes held later text (length at.commands + 1) ends.WriteFault
  closes_reply later command reply lost is replies h some =
      let all = Forwards-trans held now later (at.answers ++ reply) (session.waiting.items ++ reply) lost (Forwards-push held now at.answers session.waiting.items reply at.forwards) h in
      let answered = answered_next held now text session rest lines at command reply is replies in
      let command_of_request = asked_next held now text session rest lines at command reply is replies in
      let first = first_answers text (at.commands ++ command ∷ []) (commands_of (lines_of rest)) (at.answers ++ reply) command_of_request answered in
      (all.0, all.1, ends_lost text all.0 lost (length at.commands + 1) ends.ReadFault (subst (λ n. AnswersFirst n text (all.0 ++ lost)) (length-append at.commands (command ∷ [])) (subst (AnswersFirst _ text) all.2 first)) some)
