-- The output for a text.
use Rattle.std.specs.Prelude.{◌≡◌, ℕ, ◌+◌, ◌-◌, ◌≤◌, ◌⊎◌, ◌^◌, min, List, [], ◌∷◌, ◌++◌, length, take, Bool, true, false, if◌then◌else◌, codes, Option, Some, None, IfSome, decimal}
use Rattle.std.specs.Io.KnownBytes.{Appends, Consumes}
use Rattle.range_map_cli.specs.Lines.{lines_of, ends_in}
use Rattle.range_map_cli.specs.Commands.{Command, command_of}
use Rattle.range_map_cli.specs.Replies.{Content, empty_content, content_after_command, Replies, line}
use Rattle.range_map_cli.specs.declared.End.{End}
use Rattle.range_map_cli.specs.declared.End.TheVariants as ends

-- the command of a line, and then those of the lines after it; an invalid line ends them
abbrev pub with_command : Option Command → List Command → List Command
with_command None commands = []
with_command (Some command) commands = command ∷ commands

-- the commands of the lines up to the first invalid one
abbrev pub commands_of : List (List ℕ) → List Command
commands_of [] = []
commands_of (line ∷ lines) = with_command (command_of line) (commands_of lines)

abbrev pub bad_or : Option Command → Bool → Bool
bad_or None later = true
bad_or (Some command) later = later

-- a line is invalid
abbrev pub has_bad : List (List ℕ) → Bool
has_bad [] = false
has_bad (line ∷ lines) = bad_or (command_of line) (has_bad lines)

-- the text is printed for the commands, one after another, each on the content after those before it
abbrev pub Answers : Content → List Command → List ℕ → Type 0
Answers content [] text = text ≡ []
Answers content (command ∷ commands) text = (first rest : List ℕ) × (text ≡ first ++ rest) × Replies content command first × Answers (content_after_command command content) commands rest

-- the text that is printed for an invalid line after so many valid ones: lines are numbered from 1, and the number stays at 2^64 - 1
abbrev pub error_line : ℕ → List ℕ
error_line good = line (codes "error line " ++ decimal (min (good + 1) (2 ^ 64 - 1)))

-- the output of a text: the answers to its lines up to the first invalid one, and the error line if there is one
abbrev pub IsOutput : List ℕ → List ℕ → Type 0
IsOutput text out =
    let commands = commands_of (lines_of text) in
    (answers : List ℕ) × Answers empty_content commands answers × (out ≡ answers ++ (if has_bad (lines_of text) then error_line (length commands) else []))

-- the answers to the first n lines of a text, or to those before the first invalid one
abbrev pub AnswersFirst : ℕ → List ℕ → List ℕ → Type 0
AnswersFirst n text out = Answers empty_content (take n (commands_of (lines_of text))) out

abbrev pub no_memory : List ℕ
no_memory = line (codes "out of memory")

-- This is printed where serving the text ends so with its first n lines, and no write fails. If an allocation fails, the
-- answers to those lines are not yet the whole output.
abbrev pub Prints : List ℕ → ℕ → End → List ℕ → Type 0
Prints text n ends.Done out = (length (lines_of text) ≤ n) × (has_bad (lines_of text) ≡ false) × IsOutput text out
Prints text n ends.BadLine out = (has_bad (take n (lines_of text)) ≡ true) × IsOutput text out
Prints text n ends.NoMemory out = (answers : List ℕ) × AnswersFirst n text answers × (out ≡ answers ++ no_memory) × (IsOutput text answers → ⊥)
Prints text n ends.ReadFault out = AnswersFirst n text out
Prints text n ends.WriteFault out = ⊥

-- At a fault of the writer a first part of such a text is printed, and not all. That is not the whole output.
abbrev pub Ends : List ℕ → ℕ → End → List ℕ → Type 0
Ends text n ends.Done out = Prints text n ends.Done out
Ends text n ends.BadLine out = Prints text n ends.BadLine out
Ends text n ends.NoMemory out = Prints text n ends.NoMemory out
Ends text n ends.ReadFault out = Prints text n ends.ReadFault out
Ends text n ends.WriteFault out = (end : End) × (rest : List ℕ) × Prints text n end (out ++ rest) × (rest ≡ [] → ⊥) × (IsOutput text out → ⊥)

-- a writer that held and holds these bytes, where they are known, was given what serving the text prints where it ends so with
-- its first n lines
abbrev pub Closes : Option (List ℕ) → Option (List ℕ) → List ℕ → ℕ → End → Type 0
Closes held holds text n end = (out : List ℕ) × Appends held holds out × Ends text n end out

-- the first n lines of the text were read, where these bytes of it were: the lines end in the bytes, or the bytes are the whole
-- text, whose last line may have no LF
abbrev pub AreRead : List ℕ → List ℕ → ℕ → Type 0
AreRead text bytes n = (n ≤ ends_in bytes) ⊎ (bytes ≡ text)

-- Some bytes of the text were read, and no more. The writer was given what serving the text prints where it ends so with first
-- lines of it that were read.
abbrev pub Serves : Option (List ℕ) → Option (List ℕ) → Option (List ℕ) → Option (List ℕ) → End → Type 0
Serves held holds had has end = (bytes : List ℕ) × Consumes had has bytes × IfSome had (λ text. (n : ℕ) × AreRead text bytes n × Closes held holds text n end)

-- Some bytes of the text were read, and no more: those of the last read, which asked for 8192 at most, and those before it, in
-- which no invalid line ends.
abbrev pub StopsReading : Option (List ℕ) → Option (List ℕ) → Type 0
StopsReading had has = (earlier last : List ℕ) × Consumes had has (earlier ++ last) × (length last ≤ 8192) × IfSome had (λ text. has_bad (take (ends_in earlier) (lines_of text)) ≡ false)

-- Some bytes of the text were read, and no more. The lines that end in them were answered, and nothing else was written.
abbrev pub Streams : Option (List ℕ) → Option (List ℕ) → Option (List ℕ) → Option (List ℕ) → Type 0
Streams held holds had has = (bytes : List ℕ) × Consumes had has bytes × IfSome had (λ text. (out : List ℕ) × Appends held holds out × AnswersFirst (ends_in bytes) text out)
