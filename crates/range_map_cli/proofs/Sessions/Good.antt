-- The word of a good line is a word.
use Rattle.range_map_cli.proofs.Words.{◌≡◌, ℕ, ℤ, List, [], ◌∷◌, true, false, cond, refl, subst, Option, Some, None, Bool, ◌&&◌, codes, option_map, bytes_eq, IfSome, int_le, int_eq, option_or, Command, Blank, Get, At, Len, Entries, command_of, command_of_words, range_of, insert_of, words_of, written_number, is_word, filled_content, painted_content, Content, content_after_command, HasWords}
use Rattle.range_map_cli.specs.Commands.{Paint, Fill, Insert, Remove}

abbrev IsGood : Command → Type 0
IsGood Blank = Unit {0}
IsGood (Paint lo hi word) = is_word word ≡ true
IsGood (Fill lo hi word) = is_word word ≡ true
IsGood (Insert key word) = is_word word ≡ true
IsGood (Remove key) = Unit {0}
IsGood (Get key) = Unit {0}
IsGood (At key) = Unit {0}
IsGood Len = Unit {0}
IsGood Entries = Unit {0}

abbrev IfGood : Option Command → Type 0
IfGood None = Unit {0}
IfGood (Some command) = IsGood command

choose : (t : Bool) (o p : Option Command) → (t ≡ true → IfGood o) → IfGood p → IfGood (cond t o p)
choose true o p h n = h refl
choose false o p h n = n

-- a command of a key alone
key_good : (f : ℤ → Command) (key : Option ℤ) → ((k : ℤ) → IsGood (f k)) → IfGood (option_map f key)
key_good f None h = tt
key_good f (Some key) h = h key

-- a command of two keys and a word
range_good : (f : ℤ → ℤ → List ℕ → Command) (lo hi : Option ℤ) (word : List ℕ) → ((l h : ℤ) → is_word word ≡ true → IsGood (f l h word)) → IfGood (range_of f lo hi word)
range_good f None hi word g = tt
range_good f (Some l) None word g = tt
range_good f (Some l) (Some h) word g = choose (is_word word) (Some (f l h word)) None (g l h) tt

insert_good : (key : Option ℤ) (word : List ℕ) → IfGood (insert_of key word)
insert_good None word = tt
insert_good (Some k) word = choose (is_word word) (Some (Insert k word)) None (λ good. good) tt

words_good : (ws : List (List ℕ)) → IfGood (command_of_words ws)
words_good [] = tt
words_good (n ∷ []) = choose (bytes_eq n (codes "len")) (Some Len) _ (λ e. tt) (choose (bytes_eq n (codes "list")) (Some Entries) None (λ e. tt) tt)
words_good (n ∷ k ∷ []) =
    choose (bytes_eq n (codes "get")) (option_map Get (written_number k)) _ (λ e. key_good Get (written_number k) (λ key. tt))
    (choose (bytes_eq n (codes "remove")) (option_map Remove (written_number k)) _ (λ e. key_good Remove (written_number k) (λ key. tt))
    (choose (bytes_eq n (codes "at")) (option_map At (written_number k)) None (λ e. key_good At (written_number k) (λ key. tt)) tt))
words_good (n ∷ k ∷ w ∷ []) = choose (bytes_eq n (codes "insert")) (insert_of (written_number k) w) None (λ e. insert_good (written_number k) w) tt
words_good (n ∷ l ∷ k ∷ w ∷ []) =
    choose (bytes_eq n (codes "paint")) (range_of Paint (written_number l) (written_number k) w) _ (λ e. range_good Paint (written_number l) (written_number k) w (λ lo hi good. good))
    (choose (bytes_eq n (codes "fill")) (range_of Fill (written_number l) (written_number k) w) None (λ e. range_good Fill (written_number l) (written_number k) w (λ lo hi good. good)) tt)
words_good (a ∷ b ∷ c ∷ d ∷ e ∷ ws) = tt

line_good : (line : List ℕ) → IfGood (command_of line)
line_good [] = tt
line_good (b ∷ bs) = words_good (words_of (b ∷ bs))

painted_good : (lo hi : ℤ) (word : List ℕ) (content : Content) → is_word word ≡ true → HasWords content → HasWords (painted_content lo hi word content)
painted_good lo hi word content good words = λ key. place (int_le lo key && int_le key hi) (content key) (words key)
  where
    place : (t : Bool) (old : Option (List ℕ)) → IfSome old (λ w. is_word w ≡ true) → IfSome (cond t (Some word) old) (λ w. is_word w ≡ true)
    place true old h = good
    place false old h = h

filled_good : (lo hi : ℤ) (word : List ℕ) (content : Content) → is_word word ≡ true → HasWords content → HasWords (filled_content lo hi word content)
filled_good lo hi word content good words = λ key. place (int_le lo key && int_le key hi) (content key) (words key)
  where
    place : (t : Bool) (old : Option (List ℕ)) → IfSome old (λ w. is_word w ≡ true) → IfSome (option_or old (cond t (Some word) None)) (λ w. is_word w ≡ true)
    place true None h = good
    place false None h = tt
    place t (Some old) h = h

after_good : (command : Command) (content : Content) → IsGood command → HasWords content → HasWords (content_after_command command content)
after_good Blank content good words = words
after_good (Paint lo hi word) content good words = painted_good lo hi word content good words
after_good (Fill lo hi word) content good words = filled_good lo hi word content good words
after_good (Insert key word) content good words = painted_good key key word content good words
after_good (Remove key) content good words = λ j. take (int_eq j key) (content j) (words j)
  where
    take : (t : Bool) (old : Option (List ℕ)) → IfSome old (λ w. is_word w ≡ true) → IfSome (cond t None old) (λ w. is_word w ≡ true)
    take true old h = tt
    take false old h = h
after_good (Get key) content good words = words
after_good (At key) content good words = words
after_good Len content good words = words
after_good Entries content good words = words

-- a good line leaves words
pub HasWords-after : (line : List ℕ) (command : Command) (content : Content) → command_of line ≡ Some command → HasWords content → HasWords (content_after_command command content)
HasWords-after line command content is words = after_good command content (subst IfGood is (line_good line)) words
