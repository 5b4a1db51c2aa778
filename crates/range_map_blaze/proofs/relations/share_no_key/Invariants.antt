use Rattle.range_map_blaze.proofs.Words.{◌+◌, ◌↔◌, lengths_left, ShareNoKey}
use Rattle.range_map_blaze.proofs.relations.share_no_key.Given as goal

-- the tables share no key exactly where what is left of them shares none
abbrev pub invariant-loop-our : goal.invariant-loop-our
invariant-loop-our g l = ShareNoKey l.fn.left.entries l.fn.right.entries ↔ ShareNoKey l.ours l.theirs

abbrev pub decreases-loop-our : goal.decreases-loop-our
decreases-loop-our g l = lengths_left l.ours + lengths_left l.theirs
