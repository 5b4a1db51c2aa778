-- The content of a range map of words.
use Rattle.std.specs.Prelude.{◌≡◌, ℤ, List, IfSome, true, string_bytes}
use Rattle.std.specs.Option.{option_map}
use Rattle.std.specs.declared.string.String.{String}
use Rattle.std.specs.declared.alloc.Global.{Global}
use Rattle.blaze_entries.specs.Entries.{Entry, at}
use Rattle.range_map_cli.specs.Commands.{is_word}
use Rattle.range_map_cli.specs.Replies.{Content}

-- the word at each key, without its address
abbrev pub content_of : List (Entry (String Global)) → Content
content_of entries key = option_map string_bytes (at entries key)

-- each word is one to thirty-two letters and digits
abbrev pub HasWords : Content → Type 0
HasWords content = (key : ℤ) → IfSome (content key) (λ word. is_word word ≡ true)
