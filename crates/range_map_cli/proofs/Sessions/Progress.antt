-- What the steps of a session do to where it is in its text.
use Rattle.range_map_cli.proofs.Words.{◌≡◌, ◌==◌, false, ℕ, ◌+◌, ◌-◌, ◌^◌, ℤ, List, [], ◌∷◌, ◌++◌, length, take, refl, sym, ap, ◌∙◌, subst, arith, append_assoc, append-nil, Option, Some, min, length-append, fun_ext, take_at, All-append, All-nil, Appends, Session, lines_of, ends_in, Lacks, Command, command_of, Content, empty_content, content_after_command, Replies, commands_of, has_bad, with_command, bad_or, Answers, AnswersFirst, content_of, HasWords, content_after_commands, with_line, Forwards, IsAt}
use Rattle.range_map_cli.proofs.Sessions.Kept.{take_again}
use Rattle.range_map_cli.proofs.Sessions.Lengths.{command_of-take}
use Rattle.range_map_cli.proofs.Sessions.Cuts.{lines_end, lines_last, ends_in-Lacks, ends_in-append}
use Rattle.range_map_cli.proofs.Sessions.Good.{HasWords-after}
use Rattle.range_map_cli.proofs.Sessions.Forwarding.{Forwards-push, Forwards-trans, Forwards-all}

-- one more reply
Answers-push : (content : Content) (commands : List Command) (command : Command) (text reply : List ℕ) → Answers content commands text → Replies (content_after_commands commands content) command reply → Answers content (commands ++ command ∷ []) (text ++ reply)
Answers-push content [] command text reply h r = (reply, [], ap (λ l. l ++ reply) h ∙ sym (append-nil reply), r, refl)
Answers-push content (c ∷ cs) command text reply h r =
    (h.0, h.1 ++ reply, ap (λ l. l ++ reply) h.2 ∙ append_assoc h.0 h.1 reply, h.3, Answers-push (content_after_command c content) cs command h.1 reply h.4 r)

after_all-push : (content : Content) (commands : List Command) (command : Command) → content_after_commands (commands ++ command ∷ []) content ≡ content_after_command command (content_after_commands commands content)
after_all-push content [] command = refl
after_all-push content (c ∷ cs) command = after_all-push (content_after_command c content) cs command

-- bytes of a line that does not end in them
pub next_part : (held now : Option (List ℕ)) (text : List ℕ) (session new : Session) (bytes rest : List ℕ) (lines : ℕ)
    → IsAt held now text session (bytes ++ rest) lines → Lacks 10 bytes → new ≡ record session { line = new.line }
    → new.line ≡ take 81 (session.line ++ bytes) → IsAt held now text new rest lines
next_part held now text session new bytes rest lines at none same line =
    let joined : at.partial ++ (bytes ++ rest) ≡ (at.partial ++ bytes) ++ rest = sym (append_assoc at.partial bytes rest) in
    record {
      commands = at.commands;
      partial = at.partial ++ bytes;
      answers = at.answers;
      asked = at.asked ∙ ap (λ bs. at.commands ++ commands_of (lines_of bs)) joined;
      bad = at.bad ∙ ap (λ bs. has_bad (lines_of bs)) joined;
      answered = at.answered;
      forwards = subst (Forwards held now at.answers) (sym (ap (λ (s : Session). s.waiting.items) same)) at.forwards;
      stored = λ key. ap (λ (s : Session). content_of s.map.entries key) same ∙ at.stored key;
      words = at.words;
      counted = omega (arith, at.counted, ends_in-append bytes rest, ends_in-Lacks bytes none);
      number = ap (λ (s : Session). s.number) same ∙ at.number;
      no_end = All-append (λ b. (b == 10) ≡ false) at.partial bytes at.no_end none;
      kept = line ∙ ap (λ l. take 81 (l ++ bytes)) at.kept ∙ take_again 81 at.partial bytes;
    }

-- where no byte of a line is kept
pub without_line : (held now : Option (List ℕ)) (text : List ℕ) (session : Session) (rest : List ℕ) (lines : ℕ) → session.line ≡ [] → IsAt held now text (with_line [] session) rest lines → IsAt held now text session rest lines
without_line held now text session rest lines line at = next_part held now text (with_line [] session) session [] rest lines at (All-nil (λ b. (b == 10) ≡ false)) refl line

-- what the line that ends here asks
module _ (held now : Option (List ℕ)) (text : List ℕ) (session : Session) (rest : List ℕ) (lines : ℕ) (at : IsAt held now text session (10 ∷ rest) lines) where
  same_command : command_of at.partial ≡ command_of session.line
  same_command = sym (ap command_of at.kept ∙ command_of-take at.partial)

  pub asked_here : commands_of (lines_of text) ≡ at.commands ++ with_command (command_of session.line) (commands_of (lines_of rest))
  asked_here = at.asked ∙ ap (λ cs. at.commands ++ cs) (ap commands_of (lines_end at.partial rest at.no_end) ∙ ap (λ o. with_command o (commands_of (lines_of rest))) same_command)

  pub bad_here : has_bad (lines_of text) ≡ bad_or (command_of session.line) (has_bad (lines_of rest))
  bad_here = at.bad ∙ ap has_bad (lines_end at.partial rest at.no_end) ∙ ap (λ o. bad_or o (has_bad (lines_of rest))) same_command

  -- a good line, with its reply
  module _ (command : Command) (reply : List ℕ) (is : command_of session.line ≡ Some command)
      (replies : HasWords (content_of session.map.entries) → Replies (content_of session.map.entries) command reply) where
    same_content : content_of session.map.entries ≡ content_after_commands at.commands empty_content
    same_content = fun_ext at.stored

    pub asked_next : commands_of (lines_of text) ≡ (at.commands ++ command ∷ []) ++ commands_of (lines_of rest)
    asked_next = asked_here ∙ ap (λ o. at.commands ++ with_command o (commands_of (lines_of rest))) is ∙ sym (append_assoc at.commands (command ∷ []) (commands_of (lines_of rest)))

    pub answered_next : Answers empty_content (at.commands ++ command ∷ []) (at.answers ++ reply)
    answered_next =
        let words : HasWords (content_of session.map.entries) = subst HasWords (sym same_content) at.words in
        Answers-push empty_content at.commands command at.answers reply at.answered (subst (λ c. Replies c command reply) same_content (replies words))

    -- the line is answered
    pub next_line : (later : Option (List ℕ)) (new : Session) → ((key : ℤ) → content_of new.map.entries key ≡ content_after_command command (content_of session.map.entries) key)
        → Forwards now later (session.waiting.items ++ reply) new.waiting.items → new.number ≡ min (session.number + 1) (2 ^ 64 - 1) → new.line ≡ [] → IsAt held later text new rest lines
    next_line later new stored put number line =
        let content : content_after_commands (at.commands ++ command ∷ []) empty_content ≡ content_after_command command (content_after_commands at.commands empty_content) = after_all-push empty_content at.commands command in
        record {
          commands = at.commands ++ command ∷ [];
          partial = [];
          answers = at.answers ++ reply;
          asked = asked_next;
          bad = bad_here ∙ ap (λ o. bad_or o (has_bad (lines_of rest))) is;
          answered = answered_next;
          forwards = Forwards-trans held now later (at.answers ++ reply) (session.waiting.items ++ reply) new.waiting.items (Forwards-push held now at.answers session.waiting.items reply at.forwards) put;
          stored = λ key. stored key ∙ ap (λ c. content_after_command command c key) same_content ∙ sym (ap (λ (c : Content). c key) content);
          words = subst HasWords (sym content) (HasWords-after session.line command (content_after_commands at.commands empty_content) is at.words);
          counted = omega (arith, at.counted, length-append at.commands (command ∷ []), ends_in-append (10 ∷ []) rest);
          number = number ∙ one_more (length at.commands) _ _ at.number (length-append at.commands (command ∷ []));
          no_end = λ k d h. absurd (omega arith);
          kept = line;
        }
      where
        one_more : (n m more : ℕ) → m ≡ min n (2 ^ 64 - 1) → more ≡ n + 1 → min (m + 1) (2 ^ 64 - 1) ≡ min more (2 ^ 64 - 1)
        one_more n m more e f = omega (arith, e, f)

-- what waits is written
pub next_flush : (held now later : Option (List ℕ)) (text : List ℕ) (session new : Session) (rest : List ℕ) (lines : ℕ)
    → IsAt held now text session rest lines → Appends now later session.waiting.items → new ≡ record session { waiting = new.waiting } → new.waiting.items ≡ [] → IsAt held later text new rest lines
next_flush held now later text session new rest lines at wrote same none = record {
  commands = at.commands;
  partial = at.partial;
  answers = at.answers;
  asked = at.asked;
  bad = at.bad;
  answered = at.answered;
  forwards = Forwards-trans held now later at.answers session.waiting.items new.waiting.items at.forwards (Forwards-all now later session.waiting.items new.waiting.items wrote none);
  stored = λ key. ap (λ (s : Session). content_of s.map.entries key) same ∙ at.stored key;
  words = at.words;
  counted = at.counted;
  number = ap (λ (s : Session). s.number) same ∙ at.number;
  no_end = at.no_end;
  kept = ap (λ (s : Session). s.line) same ∙ at.kept;
}

-- a last line without an LF is one that ends
pub last_line : (held now : Option (List ℕ)) (text : List ℕ) (session : Session) (lines : ℕ) → IsAt held now text session [] lines → (session.line ≡ [] → ⊥) → IsAt held now text session (10 ∷ []) (lines + 1)
last_line held now text session lines at some =
    let same : lines_of (at.partial ++ []) ≡ lines_of (at.partial ++ 10 ∷ []) = last at.partial at.no_end (λ none. some (at.kept ∙ ap (take 81) none)) in
    let none : ends_in [] ≡ 0 = refl in
    let one : ends_in (10 ∷ []) ≡ 1 = refl in
    record {
      commands = at.commands;
      partial = at.partial;
      answers = at.answers;
      asked = at.asked ∙ ap (λ ls. at.commands ++ commands_of ls) same;
      bad = at.bad ∙ ap has_bad same;
      answered = at.answered;
      forwards = at.forwards;
      stored = at.stored;
      words = at.words;
      counted = omega (arith, at.counted, none, one);
      number = at.number;
      no_end = at.no_end;
      kept = at.kept;
    }
  where
    last : (bytes : List ℕ) → Lacks 10 bytes → (bytes ≡ [] → ⊥) → lines_of (bytes ++ []) ≡ lines_of (bytes ++ 10 ∷ [])
    last [] h e = absurd (e refl)
    last (b ∷ bs) h e = ap lines_of (append-nil (b ∷ bs)) ∙ lines_last b bs h ∙ sym (lines_end (b ∷ bs) [] h)

-- answers to the first of a text's commands
pub first_answers : (text : List ℕ) (commands later : List Command) (answers : List ℕ) → commands_of (lines_of text) ≡ commands ++ later → Answers empty_content commands answers → AnswersFirst (length commands) text answers
first_answers text commands later answers command_of_request h = subst (λ cs. Answers empty_content cs answers) (sym (ap (take (length commands)) command_of_request ∙ take_at commands later (length commands) refl)) h

-- the answers so far are those to the first lines
pub answers_first : (held now : Option (List ℕ)) (text : List ℕ) (session : Session) (rest : List ℕ) (lines : ℕ) → (at : IsAt held now text session rest lines) → AnswersFirst (length at.commands) text at.answers
answers_first held now text session rest lines at = first_answers text at.commands _ at.answers at.asked at.answered
