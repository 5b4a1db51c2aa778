-- The content of entries whose values are texts.
use Rattle.range_map_cli.proofs.Words.{◌≡◌, ℕ, ℤ, List, true, false, Bool, cond, refl, sym, ap, ◌∙◌, Option, Some, None, string_bytes, int_le, ◌&&◌, option_map, String, Global, string_eq, bytes_decides, option_or, int_eq, same_Some, Entry, at, SameOption, filled_content, painted_content, cut_at, content_of}

-- equal texts have the same bytes
pub same_words : (a b : Option (String Global)) → SameOption string_eq a b → option_map string_bytes a ≡ option_map string_bytes b
same_words None None h = refl
same_words None (Some y) h = absurd h
same_words (Some x) None h = absurd h
same_words (Some x) (Some y) h = ap Some ((bytes_decides (string_bytes x) (string_bytes y)).0 h)

-- and texts of the same bytes are equal
pub alike_words : (a b : Option (String Global)) → option_map string_bytes a ≡ option_map string_bytes b → SameOption string_eq a b
alike_words None None e = tt
alike_words None (Some y) e = cc
alike_words (Some x) None e = cc
alike_words (Some x) (Some y) e = (bytes_decides (string_bytes x) (string_bytes y)).1 (same_Some (string_bytes x) (string_bytes y) e)

pub words_if : (t : Bool) (text : String Global) (old : Option (String Global)) → option_map string_bytes (cond t (Some text) old) ≡ cond t (Some (string_bytes text)) (option_map string_bytes old)
words_if true text old = refl
words_if false text old = refl

-- the words are painted
pub content_of-painted : (lo hi : ℤ) (text : String Global) (word : List ℕ) (old new : List (Entry (String Global))) → ((k : ℤ) → SameOption string_eq (at new k) (painted_content lo hi text (at old) k))
    → string_bytes text ≡ word → (k : ℤ) → content_of new k ≡ painted_content lo hi word (content_of old) k
content_of-painted lo hi text word old new same is k =
    let t = int_le lo k && int_le k hi in
    same_words (at new k) (painted_content lo hi text (at old) k) (same k) ∙ words_if t text (at old k) ∙ ap (λ w. cond t (Some w) (content_of old k)) is

pub words_or : (t : Bool) (text : String Global) (old : Option (String Global)) → option_map string_bytes (option_or old (cond t (Some text) None)) ≡ option_or (option_map string_bytes old) (cond t (Some (string_bytes text)) None)
words_or t text (Some old) = refl
words_or true text None = refl
words_or false text None = refl

-- the keys that have no word are filled
pub content_of-filled : (lo hi : ℤ) (text : String Global) (word : List ℕ) (old new : List (Entry (String Global))) → ((k : ℤ) → SameOption string_eq (at new k) (filled_content lo hi text (at old) k))
    → string_bytes text ≡ word → (k : ℤ) → content_of new k ≡ filled_content lo hi word (content_of old) k
content_of-filled lo hi text word old new same is k =
    let t = int_le lo k && int_le k hi in
    same_words (at new k) (filled_content lo hi text (at old) k) (same k) ∙ words_or t text (at old k) ∙ ap (λ w. option_or (content_of old k) (cond t (Some w) None)) is

no_word_if : (t : Bool) (old : Option (String Global)) → option_map string_bytes (cond t None old) ≡ cond t None (option_map string_bytes old)
no_word_if true old = refl
no_word_if false old = refl

-- the word at a key is taken out
pub content_of-cut : (k : ℤ) (old new : List (Entry (String Global))) → ((j : ℤ) → SameOption string_eq (at new j) (cut_at k (at old) j)) → (j : ℤ) → content_of new j ≡ cut_at k (content_of old) j
content_of-cut k old new same j = same_words (at new j) (cut_at k (at old) j) (same j) ∙ no_word_if (int_eq j k) (at old j)
