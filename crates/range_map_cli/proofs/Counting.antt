-- The number of keys that have a word.
use Rattle.range_map_cli.proofs.Words.{◌≡◌, ℕ, zero, suc, ◌+◌, ℤ, pos, ◌+ℤ◌, List, [], ◌∷◌, ◌++◌, decimal, cond, refl, sym, ap, ◌∙◌, Option, Some, None, string_bytes, option_map, is_some, fun_ext, String, Global, Entry, at, mapped_keys, Content, greatest_key, mapped_count, line, least_key, Replies, Len, content_of}
use Rattle.blaze_entries.specs.Count.{mapped}

some_word : (o : Option (String Global)) → is_some (option_map string_bytes o) ≡ is_some o
some_word None = refl
some_word (Some x) = refl

mapped-words : (content : ℤ → Option (String Global)) (a : ℤ) (n : ℕ) → mapped (λ k. option_map string_bytes (content k)) a n ≡ mapped content a n
unfolding mapped
mapped-words content a zero = refl
mapped-words content a (suc n) = ap (λ t. (cond t 1 0) + mapped (λ k. option_map string_bytes (content k)) (a +ℤ pos 1) n) (some_word (content a)) ∙ ap (λ m. (cond (is_some (content a)) 1 0) + m) (mapped-words content (a +ℤ pos 1) n)

pub mapped_count-content_of : (es : List (Entry (String Global))) → mapped_count (content_of es) ≡ mapped_keys least_key greatest_key (at es)
mapped_count-content_of es = mapped-words (at es) least_key _

-- a content of texts has as many keys as that of their bytes
pub mapped_count-is : (content : ℤ → Option (String Global)) (words : Content) → ((k : ℤ) → option_map string_bytes (content k) ≡ words k) → mapped_keys least_key greatest_key content ≡ mapped_count words
mapped_count-is content words same = sym (mapped-words content least_key _) ∙ ap mapped_count (fun_ext same)

-- what is printed for the number of keys
pub Replies-len : (es : List (Entry (String Global))) (n : ℕ) (empty bytes : List ℕ) → n ≡ mapped_keys least_key greatest_key (at es) → empty ≡ [] → bytes ≡ empty ++ (decimal n ++ 10 ∷ []) → Replies (content_of es) Len bytes
Replies-len es n empty bytes is none written = written ∙ ap (λ l. l ++ (decimal n ++ 10 ∷ [])) none ∙ ap (λ m. line (decimal m)) (is ∙ sym (mapped_count-content_of es))
