use Rattle.blaze_streams.proofs.Words.{◌≡◌, ◌++◌, drop, row, AllReach}
use Rattle.blaze_streams.proofs.segmenting.cursors.row_at.Given as goal

abbrev pub invariant-loop-list : goal.invariant-loop-list
invariant-loop-list g l = record {
  found : l.found.items ++ row (drop l.list-index l.lists) (g.T.Integer.rank l.key) ≡ row l.lists (g.T.Integer.rank l.key);
  reach : AllReach (g.T.Integer.rank l.key) (drop l.list-index l.lists);
}
