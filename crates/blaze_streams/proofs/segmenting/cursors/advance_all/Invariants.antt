use Rattle.blaze_streams.proofs.Advanced.{IsPartly}
use Rattle.blaze_streams.proofs.segmenting.cursors.advance_all.Given as goal

abbrev pub invariant-loop-i : goal.invariant-loop-i
invariant-loop-i g l = IsPartly (g.T.Integer.rank l.end) l.initial.lists l.lists l.i
