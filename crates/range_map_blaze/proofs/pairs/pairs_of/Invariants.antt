use Rattle.range_map_blaze.proofs.Words.{◌≡◌, map, shown_list}
use Rattle.range_map_blaze.proofs.pairs.pairs_of.Given as goal

abbrev pub invariant-loop-item : goal.invariant-loop-item
invariant-loop-item g l = shown_list g.T.Integer.rank l.pairs.items ≡ map g.P.Pair.pair l.yielded
