-- Commands that steps do, and the text of a step's answer.
use Rattle.std.specs.Prelude.{ℕ, ℤ, List, [], Option, Some, None, if◌then◌else◌, codes, string_bytes}
use Rattle.std.specs.Option.{option_map}
use Rattle.std.specs.declared.string.String.{String}
use Rattle.std.specs.declared.alloc.Global.{Global}
use Rattle.range_map_cli.specs.Commands.{Command, Paint, Fill, Insert, Remove}
use Rattle.range_map_cli.specs.Replies.{line, word_or_dash}
use Rattle.range_map_cli.specs.declared.step.Step.{Step}
use Rattle.range_map_cli.specs.declared.step.Step.TheVariants as steps
use Rattle.range_map_cli.specs.declared.step.Answer.{Answer}
use Rattle.range_map_cli.specs.declared.step.Answer.TheVariants.{Wrote, Old, Popped, Done}

-- the command that a step on words does, if there is one
abbrev pub command_done : {L : Type 0} → Step ℤ (String Global) L → Option Command
command_done (steps.Paint lo hi word) = Some (Paint lo hi (string_bytes word))
command_done (steps.Fill lo hi word) = Some (Fill lo hi (string_bytes word))
command_done (steps.Insert key word) = Some (Insert key (string_bytes word))
command_done (steps.Remove key) = Some (Remove key)
command_done _ = None

-- the text that is printed for the answer of such a step
abbrev pub answer_text : Answer ℤ (String Global) → List ℕ
answer_text (Wrote changed) = line (if changed then codes "true" else codes "false")
answer_text (Old word) = line (word_or_dash (option_map string_bytes word))
answer_text (Popped pair) = []
answer_text Done = []
