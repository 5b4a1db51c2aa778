use Rattle.range_map_cli.proofs.Words.{length, Forwards}
use Rattle.range_map_cli.proofs.output.write_text.Given as goal

-- a beginning of the text is written, and the rest is left
abbrev pub invariant-loop-rest : goal.invariant-loop-rest
invariant-loop-rest g l = Forwards (g.W.Write.contents l.fn.output) (g.W.Write.contents l.output) l.text l.rest

abbrev pub decreases-loop-rest : goal.decreases-loop-rest
decreases-loop-rest g l = length l.rest
