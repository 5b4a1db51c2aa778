-- The text that is printed for a command, on the content of a range map of words, and the content after it.
use Rattle.std.specs.Prelude.{◌≡◌, ℕ, ◌^◌, ◌-◌, ℤ, pos, negsuc, List, [], ◌∷◌, ◌++◌, Option, Some, None, if◌then◌else◌, ◌==◌, codes, decimal}
use Rattle.std.specs.Fmt.{signed_decimal}
use Rattle.std.specs.Str.{bytes_eq}
use Rattle.blaze_entries.specs.Entries.{Entry, at}
use Rattle.blaze_entries.specs.Canonical.{IsOnePerRun}
use Rattle.blaze_entries.specs.Count.{mapped_keys}
use Rattle.blaze_table.specs.Filled.{filled_content}
use Rattle.blaze_entries.specs.Painted.{painted_content}
use Rattle.blaze_entries.specs.Cut.{cut_at}
use Rattle.range_map_cli.specs.Commands.{Command, Blank, Paint, Fill, Insert, Remove, Get, At, Len, Entries}
use Rattle.range_map_cli.specs.Pieces.{IsGreatestPiece}

-- the word at each key, or none
abbrev pub Content : Type 0
Content = ℤ → Option (List ℕ)

-- the content at the start
abbrev pub empty_content : Content
empty_content key = None

-- keys are the i64: the least
abbrev pub least_key : ℤ
least_key = negsuc (2 ^ 63 - 1)

-- and the greatest
abbrev pub greatest_key : ℤ
greatest_key = pos (2 ^ 63 - 1)

-- how many keys of the i64 have a word
abbrev pub mapped_count : Content → ℕ
mapped_count content = mapped_keys least_key greatest_key content

-- the content after a command
abbrev pub content_after_command : Command → Content → Content
content_after_command Blank content = content
content_after_command (Paint lo hi word) content = painted_content lo hi word content
content_after_command (Fill lo hi word) content = filled_content lo hi word content
content_after_command (Insert key word) content = painted_content key key word content
content_after_command (Remove key) content = cut_at key content
content_after_command (Get key) content = content
content_after_command (At key) content = content
content_after_command Len content = content
content_after_command Entries content = content

-- (1..=2, "a")
abbrev pub listed_entry : Entry (List ℕ) → List ℕ
listed_entry e = codes "(" ++ (signed_decimal e.lo ++ (codes "..=" ++ (signed_decimal e.hi ++ (codes ", \"" ++ (e.value ++ codes "\")")))))

-- the entries, with a comma and a space between each two
abbrev pub listed_entries : List (Entry (List ℕ)) → List ℕ
listed_entries [] = []
listed_entries (e ∷ []) = listed_entry e
listed_entries (e ∷ f ∷ es) = listed_entry e ++ (codes ", " ++ listed_entries (f ∷ es))

-- the text of the one list of entries that is one per run and has this content
abbrev pub Lists : Content → List ℕ → Type 0
Lists content text = (entries : List (Entry (List ℕ))) × IsOnePerRun bytes_eq entries × ((key : ℤ) → at entries key ≡ content key) × (text ≡ listed_entries entries)

abbrev pub word_or_dash : Option (List ℕ) → List ℕ
word_or_dash None = codes "-"
word_or_dash (Some word) = word

-- 1..=2 a
abbrev pub piece_text : ℤ → ℤ → Option (List ℕ) → List ℕ
piece_text lo hi word = signed_decimal lo ++ (codes "..=" ++ (signed_decimal hi ++ (codes " " ++ word_or_dash word)))

-- a text, and the LF that ends its line
abbrev pub line : List ℕ → List ℕ
line text = text ++ 10 ∷ []

-- the text that is printed if words are set at keys: whether that changes the number of keys that have one
abbrev pub changed_text : Content → Content → List ℕ
changed_text new old = line (if mapped_count new == mapped_count old then codes "false" else codes "true")

-- the text is printed for the command
abbrev pub Replies : Content → Command → List ℕ → Type 0
Replies content Blank text = text ≡ []
Replies content (Paint lo hi word) text = text ≡ changed_text (painted_content lo hi word content) content
Replies content (Fill lo hi word) text = text ≡ changed_text (filled_content lo hi word content) content
Replies content (Insert key word) text = text ≡ line (word_or_dash (content key))
Replies content (Remove key) text = text ≡ line (word_or_dash (content key))
Replies content (Get key) text = text ≡ line (word_or_dash (content key))
Replies content (At key) text = (lo hi : ℤ) × IsGreatestPiece least_key greatest_key content key lo hi × (text ≡ line (piece_text lo hi (content key)))
Replies content Len text = text ≡ line (decimal (mapped_count content))
Replies content Entries text = (listed : List ℕ) × Lists content listed × (text ≡ line listed)
