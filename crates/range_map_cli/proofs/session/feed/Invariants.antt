use Rattle.range_map_cli.proofs.Words.{◌++◌, ℕ, List, Option, length, IsAt}
use Rattle.range_map_cli.proofs.session.feed.Given as goal

-- where the session was before all of the bytes, it is now before the rest
abbrev pub invariant-loop-line : goal.invariant-loop-line
invariant-loop-line g l = (held : Option (List ℕ)) (text more : List ℕ) (lines : ℕ) → IsAt held (g.W.Write.contents l.fn.output) text l.fn.session (l.bytes ++ more) lines → IsAt held (g.W.Write.contents l.output) text l.session (l.rest ++ more) lines

abbrev pub decreases-loop-line : goal.decreases-loop-line
decreases-loop-line g l = length l.rest
