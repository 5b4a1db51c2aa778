-- A text has one output: the content and the command determine a reply.
use Rattle.range_map_cli.proofs.Words.{◌≡◌, ℕ, ◌+◌, ◌-◌, ◌^◌, min, decimal, ℤ, Bool, true, false, append-nil, List, [], ◌∷◌, ◌++◌, refl, sym, ap, ◌∙◌, subst, arith, append_assoc, cond, codes, ◌⊎◌, inl, inr, length, nat_list_eq_equiv, ints, bytes_decides, same_along, same_itself, Entry, at, entry, SameEntries, canonical_is_unique, Command, Blank, Get, At, Len, Entries, lines_of, IsGreatestPiece, Content, empty_content, content_after_command, greatest_key, least_key, listed_entries, line, Lists, piece_text, Replies, commands_of, has_bad, Answers, error_line, IsOutput, content_after_commands}
use Rattle.std.specs.Str.{bytes_eq}
use Rattle.range_map_cli.specs.Commands.{Paint, Fill, Insert, Remove}
use Rattle.range_map_cli.proofs.Sessions.Forwarding.{front_none}

same_entry : (e f : Entry (List ℕ)) → e.lo ≡ f.lo → e.hi ≡ f.hi → bytes_eq e.value f.value ≡ true → e ≡ f
same_entry e f lo hi value = ap (λ l. entry l e.hi e.value) lo ∙ ap (λ h. entry f.lo h e.value) hi ∙ ap (λ v. entry f.lo f.hi v) ((bytes_decides e.value f.value).0 value)

same_list : (es fs : List (Entry (List ℕ))) → SameEntries bytes_eq es fs → es ≡ fs
same_list [] [] h = refl
same_list [] (f ∷ fs) h = absurd h
same_list (e ∷ es) [] h = absurd h
same_list (e ∷ es) (f ∷ fs) h = ap (λ x. x ∷ es) (same_entry e f h.0 h.1 h.2) ∙ ap (λ xs. f ∷ xs) (same_list es fs h.3)

one_list : (content : Content) (a b : List ℕ) → Lists content a → Lists content b → a ≡ b
one_list content a b h k =
    let same = canonical_is_unique bytes_eq nat_list_eq_equiv h.0 k.0 h.1 k.1 (λ key. same_along bytes_eq refl (h.2 key ∙ sym (k.2 key)) (same_itself bytes_eq nat_list_eq_equiv (at h.0 key))) in
    h.3 ∙ ap listed_entries (same_list h.0 k.0 same) ∙ sym k.3

one_piece : (low high : ℤ) (content : Content) (k a b c d : ℤ) → IsGreatestPiece low high content k a b → IsGreatestPiece low high content k c d → (a ≡ c) × (b ≡ d)
one_piece low high content k a b c d p q =
    let wide = p.greatest c d q.from q.starts q.ends q.to q.same in
    let back = q.greatest a b p.from p.starts p.ends p.to p.same in
    (omega (arith, ints, wide, back), omega (arith, ints, wide, back))

one_reply : (content : Content) (command : Command) (a b : List ℕ) → Replies content command a → Replies content command b → a ≡ b
one_reply content Blank a b h k = h ∙ sym k
one_reply content (Paint lo hi word) a b h k = h ∙ sym k
one_reply content (Fill lo hi word) a b h k = h ∙ sym k
one_reply content (Insert key word) a b h k = h ∙ sym k
one_reply content (Remove key) a b h k = h ∙ sym k
one_reply content (Get key) a b h k = h ∙ sym k
one_reply content (At key) a b h k =
    let same = one_piece least_key greatest_key content key h.0 h.1 k.0 k.1 h.2 k.2 in
    h.3 ∙ ap (λ x. line (piece_text x h.1 (content key))) same.0 ∙ ap (λ y. line (piece_text k.0 y (content key))) same.1 ∙ sym k.3
one_reply content Len a b h k = h ∙ sym k
one_reply content Entries a b h k = h.2 ∙ ap (λ t. line t) (one_list content h.0 k.0 h.1 k.1) ∙ sym k.2

-- so do the contents at the start and the commands the answers
pub one_answer : (content : Content) (commands : List Command) (a b : List ℕ) → Answers content commands a → Answers content commands b → a ≡ b
one_answer content [] a b h k = h ∙ sym k
one_answer content (c ∷ cs) a b h k = h.2 ∙ ap (λ l. l ++ h.1) (one_reply content c h.0 k.0 h.3 k.3) ∙ ap (λ l. k.0 ++ l) (one_answer (content_after_command c content) cs h.1 k.1 h.4 k.4) ∙ sym k.2

pub one_output : (text a b : List ℕ) → IsOutput text a → IsOutput text b → a ≡ b
one_output text a b h k = h.2 ∙ ap (λ l. l ++ (cond (has_bad (lines_of text)) (error_line (length (commands_of (lines_of text)))) [])) (one_answer empty_content (commands_of (lines_of text)) h.0 k.0 h.1 k.1) ∙ sym k.2

-- answers to commands, and then to others
split_answers : (content : Content) (cs ds : List Command) (text : List ℕ) → Answers content (cs ++ ds) text → (first rest : List ℕ) × (text ≡ first ++ rest) × Answers content cs first × Answers (content_after_commands cs content) ds rest
split_answers content [] ds text h = ([], text, refl, refl, h)
split_answers content (c ∷ cs) ds text h =
    let r = split_answers (content_after_command c content) cs ds h.1 h.4 in
    (h.0 ++ r.0, r.1, h.2 ∙ ap (λ l. h.0 ++ l) r.2 ∙ sym (append_assoc h.0 r.0 r.1), (h.0, r.0, refl, h.3, r.3), r.4)

-- what is printed for a bad line, where there is one
abbrev pub bad_text : List ℕ → List ℕ
bad_text text = cond (has_bad (lines_of text)) (error_line (length (commands_of (lines_of text)))) []

-- the output begins with the answers to first commands
pub output_from : (text out answers : List ℕ) (cs ds : List Command) → commands_of (lines_of text) ≡ cs ++ ds → Answers empty_content cs answers → IsOutput text out
    → (rest : List ℕ) × (out ≡ answers ++ (rest ++ bad_text text)) × Answers (content_after_commands cs empty_content) ds rest
output_from text out answers cs ds command_of_request answered h =
    let s = split_answers empty_content cs ds h.0 (subst (λ l. Answers empty_content l h.0) command_of_request h.1) in
    (s.1, h.2 ∙ ap (λ l. l ++ bad_text text) (s.2 ∙ ap (λ l. l ++ s.1) (one_answer empty_content cs s.0 answers s.3 answered)) ∙ append_assoc answers s.1 (bad_text text), s.4)

-- ---- ends of lines

-- the text is empty, or ends in an LF
abbrev pub IsWhole : List ℕ → Type 0
IsWhole text = (text ≡ []) ⊎ ((front : List ℕ) × (text ≡ front ++ 10 ∷ []))

whole_append : (xs ys : List ℕ) → IsWhole xs → IsWhole ys → IsWhole (xs ++ ys)
whole_append xs ys h (inl none) = subst IsWhole (sym (ap (λ l. xs ++ l) none ∙ append-nil xs)) h
whole_append xs ys h (inr k) = inr (xs ++ k.0, ap (λ l. xs ++ l) k.1 ∙ sym (append_assoc xs k.0 (10 ∷ [])))

-- a reply is empty where the command is, and else ends in an LF
reply_line : (content : Content) (command : Command) (text : List ℕ) → Replies content command text → ((command ≡ Blank) × (text ≡ [])) ⊎ ((front : List ℕ) × (text ≡ front ++ 10 ∷ []))
reply_line content Blank text h = inl (refl, h)
reply_line content (Paint lo hi word) text h = inr (_, h)
reply_line content (Fill lo hi word) text h = inr (_, h)
reply_line content (Insert key word) text h = inr (_, h)
reply_line content (Remove key) text h = inr (_, h)
reply_line content (Get key) text h = inr (_, h)
reply_line content (At key) text h = inr (_, h.3)
reply_line content Len text h = inr (_, h)
reply_line content Entries text h = inr (_, h.2)

whole_answers : (content : Content) (commands : List Command) (text : List ℕ) → Answers content commands text → IsWhole text
whole_answers content [] text h = inl h
whole_answers content (c ∷ cs) text h = subst IsWhole (sym h.2) (whole_append h.0 h.1 (first (reply_line content c h.0 h.3)) (whole_answers (content_after_command c content) cs h.1 h.4))
  where
    first : ((c ≡ Blank) × (h.0 ≡ [])) ⊎ ((front : List ℕ) × (h.0 ≡ front ++ 10 ∷ [])) → IsWhole h.0
    first (inl p) = inl p.1
    first (inr p) = inr p

whole_if : (bad : Bool) (good : ℕ) → IsWhole (cond bad (error_line good) [])
whole_if true good = inr (codes "error line " ++ decimal (min (good + 1) (2 ^ 64 - 1)), refl)
whole_if false good = inl refl

-- the rest of an output is whole lines
pub whole_rest : (text rest : List ℕ) (content : Content) (ds : List Command) → Answers content ds rest → IsWhole (rest ++ bad_text text)
whole_rest text rest content ds h = whole_append rest (bad_text text) (whole_answers content ds rest h) (whole_if (has_bad (lines_of text)) _)

-- a command that is not empty has a reply
pub some_reply : (content : Content) (command : Command) (cs : List Command) (rest : List ℕ) → Answers content (command ∷ cs) rest → (command ≡ Blank → ⊥) → rest ≡ [] → ⊥
some_reply content command cs rest h some none = first (reply_line content command h.0 h.3)
  where
    no_line : (front : List ℕ) → front ++ 10 ∷ [] ≡ [] → ⊥
    no_line [] e = cc
    no_line (x ∷ xs) e = cc

    first : ((command ≡ Blank) × (h.0 ≡ [])) ⊎ ((front : List ℕ) × (h.0 ≡ front ++ 10 ∷ [])) → ⊥
    first (inl p) = some p.0
    first (inr p) = no_line p.0 (sym p.1 ∙ front_none h.0 h.1 (sym h.2 ∙ none))

-- a bad line has an error line
pub some_error : (text rest : List ℕ) → has_bad (lines_of text) ≡ true → rest ++ bad_text text ≡ [] → ⊥
some_error text rest bad none = error (subst (λ b. rest ++ cond b (error_line (length (commands_of (lines_of text)))) [] ≡ []) bad none)
  where
    no_text : (xs ys : List ℕ) → xs ++ (101 ∷ ys) ≡ [] → ⊥
    no_text [] ys e = cc
    no_text (x ∷ xs) ys e = cc

    error : rest ++ error_line (length (commands_of (lines_of text))) ≡ [] → ⊥
    error e = no_text rest _ e
