use Rattle.range_map_blaze.proofs.Words.{◌≡◌, map, shown_entry}
use Rattle.range_map_blaze.proofs.pairs.borrowed_pairs_of.Given as goal

abbrev pub invariant-loop-item : goal.invariant-loop-item
invariant-loop-item g l = map (shown_entry g.T.Integer.rank (λ v. v.now)) l.pairs.items ≡ map g.P.BorrowedPair.pair l.yielded
