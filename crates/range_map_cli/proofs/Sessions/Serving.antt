-- Where a session is, where the bytes of its reader are known.
use Rattle.range_map_cli.proofs.Words.{◌≡◌, ℕ, zero, suc, ◌+◌, ◌≤◌, List, [], ◌∷◌, ◌++◌, take, length, length-append, refl, sym, ap, ◌∙◌, subst, arith, append-nil, Option, Some, None, IfSome, false, inl, inr, Appends-nil, Consumes-kept, Consumes-trans, Appends, Consumes, IsAtEnd, Keeps, Session, End, lines_of, ends_in, Command, command_of, AnswersFirst, AreRead, Closes, Serves, Streams, commands_of, has_bad, with_command, bad_or, content_of, ClosesBefore, Forwards, IsAt, IsServing}
use Rattle.range_map_cli.specs.declared.End.TheVariants as ends
use Rattle.range_map_cli.proofs.Sessions.Cuts.{ends_in-append}
use Rattle.range_map_cli.proofs.Sessions.Progress.{answers_first, next_flush}
use Rattle.range_map_cli.proofs.Sessions.Endings.{closes_waiting}

pub serving_start : (held had : Option (List ℕ)) (session : Session) → session.map.entries ≡ [] → session.number ≡ 0 → session.line ≡ [] → session.waiting.items ≡ [] → IsServing held held had had session
serving_start held None session map number line waiting = tt
serving_start held (Some text) session map number line waiting = record {
  commands = [];
  partial = [];
  answers = [];
  asked = refl;
  bad = refl;
  answered = refl;
  forwards = ([], Appends-nil held, sym waiting);
  stored = λ key. ap (λ es. content_of es key) map;
  words = λ key. tt;
  counted = omega arith;
  number = number;
  no_end = λ k d h. absurd (omega arith);
  kept = line;
}

-- the bytes that were read are taken, and what waits is written
pub serving_more : (held now later last had mid has : Option (List ℕ)) (session fed next : Session) (bytes : List ℕ) → IsServing held now had mid session → Consumes mid has bytes
    → ((text rest : List ℕ) (lines : ℕ) → IsAt held now text session (bytes ++ rest) lines → IsAt held later text fed rest lines)
    → Appends later last fed.waiting.items → next ≡ record fed { waiting = next.waiting } → next.waiting.items ≡ [] → IsServing held last had has next
serving_more held now later last None mid has session fed next bytes at gave step wrote same none = tt
serving_more held now later last (Some text) None has session fed next bytes at gave step wrote same none = absurd at
serving_more held now later last (Some text) (Some rest) None session fed next bytes at gave step wrote same none = absurd gave
serving_more held now later last (Some text) (Some rest) (Some more) session fed next bytes at gave step wrote same none =
    next_flush held later last text fed next more (ends_in text) (step text more (ends_in text) (subst (λ l. IsAt held now text session l (ends_in text)) gave at)) wrote same none

-- the bytes that were read last end the session
pub serving_stop : (held now later had mid has : Option (List ℕ)) (session : Session) (earlier bytes : List ℕ) (end : End) → IsServing held now had mid session → Consumes had mid earlier → Consumes mid has bytes
    → ((text rest : List ℕ) (lines : ℕ) → IsAt held now text session (bytes ++ rest) lines → ClosesBefore held later text rest lines end) → Serves held later had has end
serving_stop held now later had mid has session earlier bytes end at read gave step = (earlier ++ bytes, Consumes-trans had mid has earlier bytes read gave, closes had mid has at read gave)
  where
    closes : (had mid has : Option (List ℕ)) → IsServing held now had mid session → Consumes had mid earlier → Consumes mid has bytes
        → IfSome had (λ text. (n : ℕ) × AreRead text (earlier ++ bytes) n × Closes held later text n end)
    closes None mid has at read gave = tt
    closes (Some text) None has at read gave = absurd at
    closes (Some text) (Some rest) None at read gave = absurd gave
    closes (Some text) (Some rest) (Some more) at read gave =
        let h = step text more (ends_in text) (subst (λ l. IsAt held now text session l (ends_in text)) gave at) in
        let all : ends_in text ≡ ends_in earlier + (ends_in bytes + ends_in more) = ap ends_in (read ∙ ap (λ l. earlier ++ l) gave) ∙ ends_in-append earlier (bytes ++ more) ∙ ap (λ n. ends_in earlier + n) (ends_in-append bytes more) in
        (h.0, inl (omega (arith, h.1, all, ends_in-append earlier bytes)), h.2)

-- the text was read to its end
pub serving_done : (held now later had mid has : Option (List ℕ)) (session : Session) (earlier bytes : List ℕ) (end : End) → IsServing held now had mid session → Consumes had mid earlier → Consumes mid has bytes → IsAtEnd has → bytes ≡ []
    → ((text : List ℕ) (lines : ℕ) → IsAt held now text session [] lines → ClosesBefore held later text [] (lines + 1) end) → Serves held later had has end
serving_done held now later had mid has session earlier bytes end at read gave over none step = (earlier ++ bytes, Consumes-trans had mid has earlier bytes read gave, closes had mid has at read gave over)
  where
    closes : (had mid has : Option (List ℕ)) → IsServing held now had mid session → Consumes had mid earlier → Consumes mid has bytes → IsAtEnd has
        → IfSome had (λ text. (n : ℕ) × AreRead text (earlier ++ bytes) n × Closes held later text n end)
    closes None mid has at read gave over = tt
    closes (Some text) None has at read gave over = absurd at
    closes (Some text) (Some rest) None at read gave over = absurd gave
    closes (Some text) (Some rest) (Some more) at read gave over =
        let nothing_left : rest ≡ [] = gave ∙ ap (λ l. l ++ more) none ∙ over in
        let h = step text (ends_in text) (subst (λ l. IsAt held now text session l (ends_in text)) nothing_left at) in
        (h.0, inr (ap (λ l. earlier ++ l) (none ∙ sym nothing_left) ∙ sym read), h.2)

-- what was read was taken, but what waits could not be written
pub serving_lost : (held now later last had mid has : Option (List ℕ)) (session fed : Session) (earlier bytes lost : List ℕ) → IsServing held now had mid session → Consumes had mid earlier → Consumes mid has bytes
    → ((text rest : List ℕ) (lines : ℕ) → IsAt held now text session (bytes ++ rest) lines → IsAt held later text fed rest lines)
    → Forwards later last fed.waiting.items lost → (lost ≡ [] → ⊥) → Serves held last had has ends.WriteFault
serving_lost held now later last had mid has session fed earlier bytes lost at read gave step h some =
    serving_stop held now last had mid has session earlier bytes ends.WriteFault at read gave (λ text rest lines here.
    let there = step text rest lines here in (length there.commands, omega (arith, there.counted), closes_waiting held later text fed rest lines there last lost h some))

-- where so many commands come first, so many lines are good
good_lines : (n : ℕ) (lines : List (List ℕ)) → n ≤ length (commands_of lines) → has_bad (take n lines) ≡ false
good_lines zero lines h = refl
good_lines (suc n) [] h = absurd (omega arith)
good_lines (suc n) (line ∷ lines) h = by_command (command_of line) h (λ k. good_lines n lines k)
  where
    by_command : (o : Option Command) → suc n ≤ length (with_command o (commands_of lines)) → (n ≤ length (commands_of lines) → has_bad (take n lines) ≡ false) → bad_or o (has_bad (take n lines)) ≡ false
    by_command None g later = absurd (omega arith)
    by_command (Some command) g later = later (omega (arith, g))

-- no line that ends in the bytes read so far is bad
pub serving_good : (held now had mid : Option (List ℕ)) (session : Session) (bytes : List ℕ) → IsServing held now had mid session → Consumes had mid bytes → IfSome had (λ text. has_bad (take (ends_in bytes) (lines_of text)) ≡ false)
serving_good held now None mid session bytes at read = tt
serving_good held now (Some text) None session bytes at read = absurd at
serving_good held now (Some text) (Some rest) session bytes at read =
    let lines : length at.commands ≡ ends_in bytes = omega (arith, at.counted, ap ends_in read, ends_in-append bytes rest) in
    let more = ap length at.asked ∙ length-append at.commands (commands_of (lines_of (at.partial ++ rest))) in
    good_lines (ends_in bytes) (lines_of text) (omega (arith, more, lines))

-- what was read is answered
module _ (held now had mid has : Option (List ℕ)) (session : Session) (bytes : List ℕ) (at : IsServing held now had mid session) (none : session.waiting.items ≡ []) (read : Consumes had mid bytes) (keeps : Keeps mid has) where
  answered : (had mid : Option (List ℕ)) → IsServing held now had mid session → Consumes had mid bytes → IfSome had (λ text. (out : List ℕ) × Appends held now out × AnswersFirst (ends_in bytes) text out)
  answered None mid h gave = tt
  answered (Some text) None h gave = absurd h
  answered (Some text) (Some rest) h gave =
      let same : h.answers ≡ h.forwards.0 = h.forwards.2 ∙ ap (λ l. h.forwards.0 ++ l) none ∙ append-nil h.forwards.0 in
      let lines : length h.commands ≡ ends_in bytes = omega (arith, h.counted, ap ends_in gave, ends_in-append bytes rest) in
      (h.forwards.0, h.forwards.1, subst (λ l. AnswersFirst (ends_in bytes) text l) same (subst (λ n. AnswersFirst n text h.answers) lines (answers_first held now text session rest (ends_in text) h)))

  -- reading failed
  pub streams_at : Streams held now had has
  streams_at = (bytes, Consumes-kept had mid has bytes read keeps, answered had mid at read)

  pub serving_read : Serves held now had has ends.ReadFault
  serving_read = (bytes, Consumes-kept had mid has bytes read keeps, lines had (answered had mid at read))
    where
      lines : (had : Option (List ℕ)) → IfSome had (λ text. (out : List ℕ) × Appends held now out × AnswersFirst (ends_in bytes) text out)
          → IfSome had (λ text. (n : ℕ) × AreRead text bytes n × Closes held now text n ends.ReadFault)
      lines None h = tt
      lines (Some text) h = (ends_in bytes, inl (omega arith), h)
