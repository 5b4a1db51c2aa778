-- A good line is short.
use Rattle.range_map_cli.proofs.Words.{◌≡◌, ℕ, suc, ◌+◌, ◌<◌, ◌≤◌, List, [], ◌∷◌, length, take, true, false, cond, eqb, leb, refl, sym, ap, ◌∙◌, arith, Option, Some, None, length-take, Bool, ◌&&◌, codes, ℤ, option_map, bytes_eq, ⊎_elim, take_all, nat_tests, bytes_decides, onto_first, list_all, is_ascii_alphanumeric, is_ascii_digit, order, and_parts, Command, Get, At, Len, Entries, command_of, command_of_words, range_of, insert_of, words_of, written_number, is_word, is_digits}
use Rattle.range_map_cli.specs.Commands.{Paint, Fill, Insert, Remove}

-- the bytes of the words, with one more for each
total : List (List ℕ) → ℕ
total [] = 0
total (w ∷ ws) = suc (length w) + total ws

total_onto : (b : ℕ) (ws : List (List ℕ)) → 0 < total ws → total (onto_first b ws) ≡ suc (total ws)
unfolding total
total_onto b [] h = absurd (omega arith)
total_onto b (w ∷ ws) h = omega arith

total_cons : (t : Bool) (b n : ℕ) (ws : List (List ℕ)) → total ws ≡ suc n → total (cond t ([] ∷ ws) (onto_first b ws)) ≡ suc (suc n)
unfolding total
total_cons true b n ws h = omega (arith, h)
total_cons false b n ws h = total_onto b ws (omega (arith, h)) ∙ ap suc h

total_words : (line : List ℕ) → total (words_of line) ≡ suc (length line)
unfolding total
total_words [] = refl
total_words (b ∷ bs) = total_cons (eqb b 32) b (length bs) (words_of bs) (total_words bs)

digits_long : (ds : List ℕ) → 19 < length ds → is_digits ds ≡ false
digits_long ds h = let f : leb (length ds) 19 ≡ false = grind (arith, nat_tests) in rw f (middle (leb 1 (length ds)) (list_all is_ascii_digit ds))
  where
    middle : (a c : Bool) → ((a && false) && c) ≡ false
    middle true c = refl
    middle false c = refl

same_cond : (t : Bool) (x : Option ℤ) → cond t x x ≡ x
same_cond true x = refl
same_cond false x = refl

number_long : (text : List ℕ) → 20 < length text → written_number text ≡ None
number_long [] h = absurd (omega arith)
number_long (b ∷ bs) h = rw (digits_long bs (omega arith), digits_long (b ∷ bs) (omega arith)) (same_cond (eqb b 45) None)

name_length : (name text : List ℕ) → bytes_eq name text ≡ true → length name ≡ length text
name_length name text h = ap length ((bytes_decides name text).0 h)

word_short : (w : List ℕ) → is_word w ≡ true → length w ≤ 32
word_short w h =
    let parts = and_parts (leb 1 (length w) && leb (length w) 32) (list_all is_ascii_alphanumeric w) h in
    let last = and_parts (leb 1 (length w)) (leb (length w) 32) parts.0 in
    grind (arith, nat_tests, last.1)

choose : (t : Bool) (o p : Option Command) → (t ≡ true → o ≡ None) → p ≡ None → cond t o p ≡ None
choose true o p h n = h refl
choose false o p h n = n

-- one of the three is too long
range_long : (f : ℤ → ℤ → List ℕ → Command) (lo hi word : List ℕ) → 72 < length lo + (length hi + length word) → range_of f (written_number lo) (written_number hi) word ≡ None
range_long f lo hi word h =
    ⊎_elim (λ long. ap (λ n. range_of f n (written_number hi) word) (number_long lo long)) (λ low.
    ⊎_elim (λ long. ap (λ n. range_of f (written_number lo) n word) (number_long hi long) ∙ no_high (written_number lo)) (λ high.
    both (written_number lo) (written_number hi) (λ good. absurd (omega (arith, low, high, h, word_short word good)))) (order 20 (length hi))) (order 20 (length lo))
  where
    no_high : (a : Option ℤ) → range_of f a None word ≡ None
    no_high None = refl
    no_high (Some l) = refl

    both : (a b : Option ℤ) → (is_word word ≡ true → ⊥) → range_of f a b word ≡ None
    both None b n = refl
    both (Some l) None n = refl
    both (Some l) (Some m) n = choose (is_word word) (Some (f l m word)) None (λ good. absurd (n good)) refl

-- one of the two is too long
insert_long : (key word : List ℕ) → 52 < length key + length word → insert_of (written_number key) word ≡ None
insert_long key word h =
    ⊎_elim (λ long. ap (λ n. insert_of n word) (number_long key long)) (λ low. with_key (written_number key) (λ good. absurd (omega (arith, low, h, word_short word good)))) (order 20 (length key))
  where
    with_key : (a : Option ℤ) → (is_word word ≡ true → ⊥) → insert_of a word ≡ None
    with_key None n = refl
    with_key (Some k) n = choose (is_word word) (Some (Insert k word)) None (λ good. absurd (n good)) refl

words_long : (ws : List (List ℕ)) → 81 < total ws → command_of_words ws ≡ None
unfolding total
words_long [] h = refl
words_long (n ∷ []) h =
    choose (bytes_eq n (codes "len")) (Some Len) _ (λ e. absurd (omega (arith, name_length n (codes "len") e)))
    (choose (bytes_eq n (codes "list")) (Some Entries) None (λ e. absurd (omega (arith, name_length n (codes "list") e))) refl)
words_long (n ∷ k ∷ []) h =
    choose (bytes_eq n (codes "get")) (option_map Get (written_number k)) _ (λ e. ap (option_map Get) (number_long k (omega (arith, name_length n (codes "get") e))))
    (choose (bytes_eq n (codes "remove")) (option_map Remove (written_number k)) _ (λ e. ap (option_map Remove) (number_long k (omega (arith, name_length n (codes "remove") e))))
    (choose (bytes_eq n (codes "at")) (option_map At (written_number k)) None (λ e. ap (option_map At) (number_long k (omega (arith, name_length n (codes "at") e)))) refl))
words_long (n ∷ k ∷ w ∷ []) h = choose (bytes_eq n (codes "insert")) (insert_of (written_number k) w) None (λ e. insert_long k w (omega (arith, name_length n (codes "insert") e))) refl
words_long (n ∷ l ∷ k ∷ w ∷ []) h =
    choose (bytes_eq n (codes "paint")) (range_of Paint (written_number l) (written_number k) w) _ (λ e. range_long Paint l k w (omega (arith, name_length n (codes "paint") e)))
    (choose (bytes_eq n (codes "fill")) (range_of Fill (written_number l) (written_number k) w) None (λ e. range_long Fill l k w (omega (arith, name_length n (codes "fill") e))) refl)
words_long (a ∷ b ∷ c ∷ d ∷ e ∷ ws) h = refl

too_long : (line : List ℕ) → 80 < length line → command_of line ≡ None
too_long [] h = absurd (omega arith)
too_long (b ∷ bs) h = words_long (words_of (b ∷ bs)) (omega (arith, total_words (b ∷ bs)))

-- what is past the room is not missed
pub command_of-take : (line : List ℕ) → command_of (take 81 line) ≡ command_of line
command_of-take line = ⊎_elim (λ long. too_long (take 81 line) (omega (arith, length-take 81 line)) ∙ sym (too_long line (omega arith))) (λ short. ap command_of (take_all 81 line short)) (order 81 (length line))
