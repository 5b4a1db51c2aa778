-- If the least key from the start on is above the greatest key up to the end, the bounds name no key.
use Rattle.std.proofs.Common.{arith}
use Rattle.std.proofs.lemmas.Int.{ints}
use Rattle.blaze_int.proofs.Ends.{none_named}
use Rattle.blaze_int.proofs.bounds.ends_of.Goals as goal

pub returns-else-is_at_most-clause-ends : goal.returns-else-is_at_most-clause-ends
returns-else-is_at_most-clause-ends g c = none_named g.T.Integer.rank g.T.Integer.low g.T.Integer.high c.args.start c.args.end
    (grind (arith, ints, c.in_ok-first.ensures.first, c.in_ok-last.ensures.last, c.is_at_most.ensures))
