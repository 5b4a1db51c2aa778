-- The position of a session in its text.
use Rattle.std.specs.Prelude.{◌≡◌, ℕ, ◌+◌, ◌-◌, ◌≤◌, ◌^◌, min, ℤ, List, [], ◌∷◌, ◌++◌, length, take, Option, Some, None}
use Rattle.std.specs.Io.KnownBytes.{Appends}
use Rattle.range_map_cli.specs.Lines.{lines_of, ends_in, Lacks}
use Rattle.range_map_cli.specs.Commands.{Command}
use Rattle.range_map_cli.specs.Replies.{Content, empty_content, content_after_command}
use Rattle.range_map_cli.specs.Output.{commands_of, has_bad, Answers, Closes}
use Rattle.range_map_cli.specs.States.{content_of, HasWords}
use Rattle.range_map_cli.specs.declared.session.Session.{Session}
use Rattle.range_map_cli.specs.declared.End.{End}

-- the content after all of the commands
abbrev pub content_after_commands : List Command → Content → Content
content_after_commands [] content = content
content_after_commands (command ∷ commands) content = content_after_commands commands (content_after_command command content)

-- the session that keeps these bytes of a line, as many as there is space for
abbrev pub with_line : List ℕ → Session → Session
with_line bytes session = record session { line = take 81 bytes }

-- of all these bytes a writer that held and holds what is given took a beginning, and the rest waits
abbrev pub Forwards : Option (List ℕ) → Option (List ℕ) → List ℕ → List ℕ → Type 0
Forwards held holds all waits = (out : List ℕ) × Appends held holds out × (all ≡ out ++ waits)

-- of these bytes a writer took a beginning, and not all
abbrev pub Stops : Option (List ℕ) → Option (List ℕ) → List ℕ → Type 0
Stops held holds all = (lost : List ℕ) × Forwards held holds all lost × (lost ≡ [] → ⊥)

-- The first lines of the text are answered, of the next some bytes are taken, and the rest follows. The answers are
-- written or wait. The ends of lines, those answered and those of the rest, are as many as given.
pub record IsAt (held holds : Option (List ℕ)) (text : List ℕ) (session : Session) (rest : List ℕ) (lines : ℕ) : Type 0 where
  pub commands : List Command
  pub partial : List ℕ
  pub answers : List ℕ
  pub asked : commands_of (lines_of text) ≡ commands ++ commands_of (lines_of (partial ++ rest))
  pub bad : has_bad (lines_of text) ≡ has_bad (lines_of (partial ++ rest))
  pub answered : Answers empty_content commands answers
  pub forwards : Forwards held holds answers session.waiting.items
  pub stored : (key : ℤ) → content_of session.map.entries key ≡ content_after_commands commands empty_content key
  pub words : HasWords (content_after_commands commands empty_content)
  pub counted : length commands + ends_in rest ≡ lines
  pub number : session.number ≡ min (length commands) (2 ^ 64 - 1)
  pub no_end : Lacks 10 partial
  pub kept : session.line ≡ take 81 partial

-- The writer was given what serving the text prints where it ends so with first lines of it, of which none ends in the rest. The
-- ends of lines, those of the lines and those in the rest, are at most as many as given.
abbrev pub ClosesBefore : Option (List ℕ) → Option (List ℕ) → List ℕ → List ℕ → ℕ → End → Type 0
ClosesBefore held holds text rest lines end = (n : ℕ) × (n + ends_in rest ≤ lines) × Closes held holds text n end

-- where a session is, of what a reader had and has, where that is known
abbrev pub IsServing : Option (List ℕ) → Option (List ℕ) → Option (List ℕ) → Option (List ℕ) → Session → Type 0
IsServing held holds None rest session = Unit {0}
IsServing held holds (Some text) None session = ⊥
IsServing held holds (Some text) (Some rest) session = IsAt held holds text session rest (ends_in text)
