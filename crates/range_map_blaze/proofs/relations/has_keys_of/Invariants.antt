use Rattle.range_map_blaze.proofs.Words.{◌+◌, ◌↔◌, lengths_left, HasKeysOf}
use Rattle.range_map_blaze.proofs.relations.has_keys_of.Given as goal

-- the left table has the keys of the right one exactly where what is left of it has those of what is left there
abbrev pub invariant-loop-their : goal.invariant-loop-their
invariant-loop-their g l = HasKeysOf l.fn.left.entries l.fn.right.entries ↔ HasKeysOf l.ours l.theirs

abbrev pub decreases-loop-their : goal.decreases-loop-their
decreases-loop-their g l = lengths_left l.ours + lengths_left l.theirs
