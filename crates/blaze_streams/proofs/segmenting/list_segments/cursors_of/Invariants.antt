use Rattle.blaze_streams.proofs.Words.{◌≡◌, ◌++◌, drop, nat_eq, all_numbered, AllCanonical}
use Rattle.blaze_streams.proofs.segmenting.list_segments.cursors_of.Given as goal

abbrev pub invariant-loop-list : goal.invariant-loop-list
invariant-loop-list g l = record {
  numbered : l.cursors.items ++ all_numbered g.T.Integer.rank (drop l.list-index l.lists) ≡ all_numbered g.T.Integer.rank l.lists;
  canonical : AllCanonical nat_eq (all_numbered g.T.Integer.rank (drop l.list-index l.lists));
}
