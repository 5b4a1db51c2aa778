use Rattle.blaze_streams.proofs.Words.{◌≡◌, length, after}
use Rattle.blaze_streams.proofs.cursor.take_above.Given as goal

-- the part above `end` is the same
abbrev pub invariant-loop-first : goal.invariant-loop-first
invariant-loop-first g l = after (g.T.Integer.rank l.end) (g.I.SortedDisjointMap.left l.stream) ≡ after (g.T.Integer.rank l.end) (g.I.SortedDisjointMap.left l.initial.stream)

abbrev pub decreases-loop-first : goal.decreases-loop-first
decreases-loop-first g l = length (g.I.SortedDisjointMap.left l.stream)
