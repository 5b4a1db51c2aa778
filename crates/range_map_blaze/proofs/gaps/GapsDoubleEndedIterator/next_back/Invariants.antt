use Rattle.range_map_blaze.proofs.Words.{◌≡◌, IfSome, length, gaps_left, IsGapWalk}
use Rattle.range_map_blaze.proofs.gaps.GapsDoubleEndedIterator.next_back.Given as goal

-- the same gaps are left as at the start
abbrev pub invariant-loop-self : goal.invariant-loop-self
invariant-loop-self g l = record {
  walk : IfSome l.self-inside.left (λ p. IsGapWalk (g.T.Integer.rank p.0) (g.T.Integer.rank p.1) l.self-inside.entries);
  same : gaps_left g.T.Integer.rank l.self-inside.left l.self-inside.entries ≡ l.fn.self;
}

abbrev pub decreases-loop-self : goal.decreases-loop-self
decreases-loop-self g l = length l.self-inside.entries
