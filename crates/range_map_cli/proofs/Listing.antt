-- The printed text of entries whose values are words.
use Rattle.range_map_cli.proofs.Words.{◌≡◌, ◌↔◌, ℕ, ℤ, pos, ◌+ℤ◌, ◌-ℤ◌, ◌≤ℤ◌, List, [], ◌∷◌, ◌++◌, map, true, false, Bool, cond, refl, sym, ap, ◌∙◌, subst, Option, Some, None, IfSome, IsSome, string_bytes, int_le, ◌&&◌, option_map, bytes_eq, arith, codes, ◌⊎◌, length, nat_le, append_assoc, append-nil, fun_ext, nat_tests, ints, String, Global, string_eq, list_all, flat_map, is_ascii_alphanumeric, is_ascii, debug_str, signed_decimal, option_append, AppendsText, and_parts, Entry, entry, at, holds, SameOption, IsOnePerRun, IsDisjoint, IsAscending, IsClear, HasStart, HasEnd, IsRunStart, IsRunEnd, at_clear, is_word, Entries, Replies, listed_entry, listed_entries, content_of, HasWords}
use Rattle.std.specs.Fmt.{debug_escape}
use Rattle.range_map_blaze.specs.Printed as printed
use Rattle.range_map_cli.proofs.Contents.{words_if}

-- the entry with its word, without where it lies
abbrev word_entry : Entry (String Global) → Entry (List ℕ)
word_entry e = entry e.lo e.hi (string_bytes e.value)

abbrev word_entries : List (Entry (String Global)) → List (Entry (List ℕ))
word_entries es = map word_entry es

at-words : (es : List (Entry (String Global))) (k : ℤ) → at (word_entries es) k ≡ content_of es k
at-words [] k = refl
at-words (e ∷ es) k = ap (λ o. cond (holds e k) (Some (string_bytes e.value)) o) (at-words es k) ∙ sym (words_if (holds e k) e.value (at es k))

clear-words : (e : Entry (String Global)) (es : List (Entry (String Global))) → IsClear e es → IsClear (word_entry e) (word_entries es)
clear-words e [] h = tt
clear-words e (f ∷ fs) h = (h.0, clear-words e fs h.1)

disjoint-words : (es : List (Entry (String Global))) → IsDisjoint es → IsDisjoint (word_entries es)
disjoint-words [] h = tt
disjoint-words (e ∷ es) h = (h.0, clear-words e es h.1, disjoint-words es h.2)

ascending-words : (es : List (Entry (String Global))) → IsAscending es → IsAscending (word_entries es)
ascending-words [] h = tt
ascending-words (e ∷ []) h = tt
ascending-words (e ∷ f ∷ fs) h = (h.0, ascending-words (f ∷ fs) h.1)

start-words : (es : List (Entry (String Global))) (k : ℤ) → HasStart (word_entries es) k ≡ HasStart es k
start-words [] k = refl
start-words (e ∷ es) k = ap (λ (P : Type 0). (k ≡ e.lo) ⊎ P) (start-words es k)

end-words : (es : List (Entry (String Global))) (k : ℤ) → HasEnd (word_entries es) k ≡ HasEnd es k
end-words [] k = refl
end-words (e ∷ es) k = ap (λ (P : Type 0). (k ≡ e.hi) ⊎ P) (end-words es k)

-- with a content that is that of the words, runs are those of the texts
runs-words : (a b : Option (String Global)) → (IsSome (option_map string_bytes b) × (¬ SameOption bytes_eq (option_map string_bytes a) (option_map string_bytes b))) ≡ (IsSome b × (¬ SameOption string_eq a b))
runs-words None None = refl
runs-words None (Some y) = refl
runs-words (Some x) None = refl
runs-words (Some x) (Some y) = refl

ends-words : (a b : Option (String Global)) → (IsSome (option_map string_bytes a) × (¬ SameOption bytes_eq (option_map string_bytes a) (option_map string_bytes b))) ≡ (IsSome a × (¬ SameOption string_eq a b))
ends-words None None = refl
ends-words None (Some y) = refl
ends-words (Some x) None = refl
ends-words (Some x) (Some y) = refl

same_content : (es : List (Entry (String Global))) → at (word_entries es) ≡ content_of es
same_content es = fun_ext (at-words es)

starts-words : (es : List (Entry (String Global))) (k : ℤ) → IsRunStart bytes_eq (at (word_entries es)) k ≡ IsRunStart string_eq (at es) k
unfolding IsRunStart
starts-words es k = ap (λ (content : ℤ → Option (List ℕ)). IsRunStart bytes_eq content k) (same_content es) ∙ runs-words (at es (k -ℤ pos 1)) (at es k)

stops-words : (es : List (Entry (String Global))) (k : ℤ) → IsRunEnd bytes_eq (at (word_entries es)) k ≡ IsRunEnd string_eq (at es) k
unfolding IsRunEnd
stops-words es k = ap (λ (content : ℤ → Option (List ℕ)). IsRunEnd bytes_eq content k) (same_content es) ∙ ends-words (at es k) (at es (k +ℤ pos 1))

both_ways : (A B C D : Type 0) → A ≡ B → C ≡ D → B ↔ D → A ↔ C
both_ways A B C D p q h = subst (λ (X : Type 0). A ↔ X) (sym q) (subst (λ (X : Type 0). X ↔ D) (sym p) h)

-- the words of a canonical list are one per run
IsOnePerRun-words : (es : List (Entry (String Global))) → IsOnePerRun string_eq es → IsOnePerRun bytes_eq (word_entries es)
IsOnePerRun-words es h = record {
  disjoint = disjoint-words es h.disjoint;
  ascending = ascending-words es h.ascending;
  starts = λ k. both_ways _ (HasStart es k) _ (IsRunStart string_eq (at es) k) (start-words es k) (starts-words es k) (h.starts k);
  ends = λ k. both_ways _ (HasEnd es k) _ (IsRunEnd string_eq (at es) k) (end-words es k) (stops-words es k) (h.ends k);
}

-- ---- texts

-- each value is a word
abbrev AreWords : List (Entry (String Global)) → Type 0
AreWords [] = Unit {0}
AreWords (e ∷ es) = (is_word (string_bytes e.value) ≡ true) × AreWords es

holds_lo : (l h : ℤ) → l ≤ℤ h → (int_le l l && int_le l h) ≡ true
holds_lo l h o = grind (arith, ints)

rest_words : (e : Entry (String Global)) (es : List (Entry (String Global))) → IsClear e es → HasWords (content_of (e ∷ es)) → HasWords (content_of es)
rest_words e es clear words k = by_cases (holds e k) (words k) (at_clear e es k clear)
  where
    by_cases : (t : Bool) → IfSome (option_map string_bytes (cond t (Some e.value) (at es k))) (λ w. is_word w ≡ true) → (t ≡ true → at es k ≡ None) → IfSome (content_of es k) (λ w. is_word w ≡ true)
    by_cases true h none = subst (λ (o : Option (String Global)). IfSome (option_map string_bytes o) (λ w. is_word w ≡ true)) (sym (none refl)) tt
    by_cases false h none = h

first_word : (e : Entry (String Global)) (es : List (Entry (String Global))) → e.lo ≤ℤ e.hi → HasWords (content_of (e ∷ es)) → is_word (string_bytes e.value) ≡ true
first_word e es order words = subst (λ t. IfSome (option_map string_bytes (cond t (Some e.value) (at es e.lo))) (λ w. is_word w ≡ true)) (holds_lo e.lo e.hi order) (words e.lo)

are_words : (es : List (Entry (String Global))) → IsDisjoint es → HasWords (content_of es) → AreWords es
are_words [] h words = tt
are_words (e ∷ es) h words = (first_word e es h.0 words, are_words es h.2 (rest_words e es h.1 words))

plain : (c : ℕ) → is_ascii_alphanumeric c ≡ true → debug_escape 34 c ≡ c ∷ []
unfolding debug_escape
plain c h = grind (arith, nat_tests)

ascii : (c : ℕ) → is_ascii_alphanumeric c ≡ true → is_ascii c ≡ true
ascii c h = grind (arith, nat_tests)

all_ascii : (w : List ℕ) → list_all is_ascii_alphanumeric w ≡ true → list_all is_ascii w ≡ true
all_ascii [] h = refl
all_ascii (c ∷ w) h = let parts = and_parts (is_ascii_alphanumeric c) (list_all is_ascii_alphanumeric w) h in rw (ascii c parts.0) (all_ascii w parts.1)

all_plain : (w : List ℕ) → list_all is_ascii_alphanumeric w ≡ true → flat_map (debug_escape 34) w ≡ w
all_plain [] h = refl
all_plain (c ∷ w) h = let parts = and_parts (is_ascii_alphanumeric c) (list_all is_ascii_alphanumeric w) h in ap (λ l. l ++ flat_map (debug_escape 34) w) (plain c parts.0) ∙ ap (λ l. c ∷ l) (all_plain w parts.1)

-- the word itself, between quotes
debug_word : (w : List ℕ) → is_word w ≡ true → debug_str w ≡ Some (34 ∷ (w ++ 34 ∷ []))
debug_word w good =
    let h = (and_parts (nat_le 1 (length w) && nat_le (length w) 32) (list_all is_ascii_alphanumeric w) good).1 in
    rw (all_ascii w h) (ap (λ l. Some (34 ∷ (l ++ 34 ∷ []))) (all_plain w h))

abbrev key_text : ℤ → Option (List ℕ)
key_text z = Some (signed_decimal z)

abbrev value_text : String Global → Option (List ℕ)
value_text s = debug_str (string_bytes s)

text_of_entry : (e : Entry (String Global)) → is_word (string_bytes e.value) ≡ true → printed.entry_text key_text (λ z. z) value_text e ≡ Some (listed_entry (word_entry e))
text_of_entry e good =
    rw (debug_word (string_bytes e.value) good)
    (ap (λ l. Some (codes "(" ++ (signed_decimal e.lo ++ (codes "..=" ++ (signed_decimal e.hi ++ (codes ", " ++ (codes "\"" ++ l))))))) (append_assoc (string_bytes e.value) (34 ∷ []) (41 ∷ [])))

texts_from : (lead : List ℕ) (e : Entry (String Global)) (es : List (Entry (String Global))) → AreWords (e ∷ es) → printed.entries_text key_text (λ z. z) value_text lead (e ∷ es) ≡ Some (lead ++ listed_entries (word_entries (e ∷ es)))
texts_from lead e [] words = rw (text_of_entry e words.0) (ap Some (append-nil (lead ++ listed_entry (word_entry e))))
texts_from lead e (f ∷ es) words = rw (text_of_entry e words.0, texts_from (codes ", ") f es words.1) (ap Some (append_assoc lead (listed_entry (word_entry e)) (codes ", " ++ listed_entries (word_entries (f ∷ es)))))

-- the printed text of a range map of words
map_text-words : (es : List (Entry (String Global))) → IsDisjoint es → HasWords (content_of es) → printed.map_text key_text (λ z. z) value_text es ≡ Some (listed_entries (word_entries es))
map_text-words [] h words = refl
map_text-words (e ∷ es) h words = texts_from [] e es (are_words (e ∷ es) h words)

-- what is printed for all entries
pub Replies-entries : (es : List (Entry (String Global))) (empty bytes : List ℕ) → IsOnePerRun string_eq es → HasWords (content_of es) → empty ≡ []
    → AppendsText empty bytes (option_append (printed.map_text key_text (λ z. z) value_text es) (Some (10 ∷ []))) → Replies (content_of es) Entries bytes
Replies-entries es empty bytes runs words none written =
    let text = listed_entries (word_entries es) in
    let all : bytes ≡ empty ++ (text ++ 10 ∷ []) = subst (λ (o : Option (List ℕ)). AppendsText empty bytes (option_append o (Some (10 ∷ [])))) (map_text-words es runs.disjoint words) written in
    (text, (word_entries es, IsOnePerRun-words es runs, at-words es, refl), all ∙ ap (λ l. l ++ (text ++ 10 ∷ [])) none)
