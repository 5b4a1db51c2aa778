-- The command of a line.
use Rattle.std.specs.Prelude.{ℕ, ◌^◌, List, [], ◌∷◌, length, Bool, ◌&&◌, if◌then◌else◌, ◌==◌, nat_le, nat_lt, ℤ, pos, neg_ℤ, codes, Option, Some, None}
use Rattle.std.specs.List.{slice_split, list_all}
use Rattle.std.specs.Option.{option_map}
use Rattle.std.specs.Char.{is_ascii_digit, is_ascii_alphanumeric}
use Rattle.std.specs.Str.{bytes_eq}
use Rattle.std.specs.Str.Parse.{digits_value}
use Rattle.range_map_cli.specs.declared.request.Request.{Request}
use Rattle.range_map_cli.specs.declared.request.Request.TheVariants as requests

-- the command of a valid line: none, a paint of the keys from one to another, a fill of those of them that have no word, a word
-- set at a key, a key removed, the word at a key, the entry or the gap around a key, the number of keys, or all entries
pub data Command : Type 0 where
  Blank : Command
  Paint : ℤ → ℤ → List ℕ → Command
  Fill : ℤ → ℤ → List ℕ → Command
  Insert : ℤ → List ℕ → Command
  Remove : ℤ → Command
  Get : ℤ → Command
  At : ℤ → Command
  Len : Command
  Entries : Command

-- one to nineteen digits
abbrev pub is_digits : List ℕ → Bool
is_digits text = nat_le 1 (length text) && nat_le (length text) 19 && list_all is_ascii_digit text

-- the i64 of a text: digits, after a minus if it is negative
abbrev pub written_number : List ℕ → Option ℤ
written_number [] = None
written_number (b ∷ bs) = if b == 45
    then (if is_digits bs && nat_le (digits_value 10 bs) (2 ^ 63) then Some (neg_ℤ (pos (digits_value 10 bs))) else None)
    else (if is_digits (b ∷ bs) && nat_lt (digits_value 10 (b ∷ bs)) (2 ^ 63) then Some (pos (digits_value 10 (b ∷ bs))) else None)

-- one to thirty-two letters and digits
abbrev pub is_word : List ℕ → Bool
is_word text = nat_le 1 (length text) && nat_le (length text) 32 && list_all is_ascii_alphanumeric text

-- the words of a line, which spaces separate
abbrev pub words_of : List ℕ → List (List ℕ)
words_of line = slice_split (λ b. b == 32) line

-- a command of two numbers and a word
abbrev pub range_of : (ℤ → ℤ → List ℕ → Command) → Option ℤ → Option ℤ → List ℕ → Option Command
range_of command None hi word = None
range_of command (Some lo) None word = None
range_of command (Some lo) (Some hi) word = if is_word word then Some (command lo hi word) else None

-- a command of a number and a word
abbrev pub insert_of : Option ℤ → List ℕ → Option Command
insert_of None word = None
insert_of (Some key) word = if is_word word then Some (Insert key word) else None

-- the command of the words of a line that is not empty, or `None` if the line is invalid
abbrev pub command_of_words : List (List ℕ) → Option Command
command_of_words [] = None
command_of_words (name ∷ []) =
    if bytes_eq name (codes "len") then Some Len else
    (if bytes_eq name (codes "list") then Some Entries else None)
command_of_words (name ∷ key ∷ []) =
    if bytes_eq name (codes "get") then option_map Get (written_number key) else
    (if bytes_eq name (codes "remove") then option_map Remove (written_number key) else
    (if bytes_eq name (codes "at") then option_map At (written_number key) else None))
command_of_words (name ∷ key ∷ word ∷ []) =
    if bytes_eq name (codes "insert") then insert_of (written_number key) word else None
command_of_words (name ∷ lo ∷ hi ∷ word ∷ []) =
    if bytes_eq name (codes "paint") then range_of Paint (written_number lo) (written_number hi) word else
    (if bytes_eq name (codes "fill") then range_of Fill (written_number lo) (written_number hi) word else None)
command_of_words (_ ∷ _ ∷ _ ∷ _ ∷ _ ∷ _) = None

-- the command of a line, or `None` if it is invalid
abbrev pub command_of : List ℕ → Option Command
command_of [] = Some Blank
command_of (b ∷ bs) = command_of_words (words_of (b ∷ bs))

-- a request as a command: without the address of its word
abbrev pub command_of_request : Request → Command
command_of_request requests.Blank = Blank
command_of_request (requests.Paint lo hi word) = Paint lo hi word.now
command_of_request (requests.Fill lo hi word) = Fill lo hi word.now
command_of_request (requests.Insert key word) = Insert key word.now
command_of_request (requests.Remove key) = Remove key
command_of_request (requests.Get key) = Get key
command_of_request (requests.At key) = At key
command_of_request requests.Len = Len
command_of_request requests.Entries = Entries
