use Rattle.blaze_streams.proofs.ChosenSoFar.{both_from, lesser_is}
use Rattle.blaze_streams.proofs.Lesser.{at_most_both, at_most_itself}
use Rattle.blaze_streams.proofs.Steady.{reaches}
use Rattle.blaze_streams.proofs.segmenting.joins.steady_end.Goals as goal

pub last-requires : goal.last-requires
last-requires g c = record { from = (both_from (g.T.Integer.rank c.args.start) c.args.left.now c.args.right.now c.requires.starts.is).0 }

pub last-requires-2 : goal.last-requires-2
last-requires-2 g c = record { from = (both_from (g.T.Integer.rank c.args.start) c.args.left.now c.args.right.now c.requires.starts.is).1 }

pub returns-clause-ends : goal.returns-clause-ends
returns-clause-ends g c = lesser_is _ _ _ _ (g.T.Integer.rank c.in-Some.end) c.in-Some.ensures c.last.ensures c.last-2.ensures

pub returns-clause-left : goal.returns-clause-left
returns-clause-left g c =
    let t = g.T.Integer.rank c.in-Some.end in
    reaches g.VCL.Value.PartialEq.eq (g.T.Integer.rank c.args.start) t c.args.left.now c.requires.left
    (at_most_both _ _ t (at_most_itself _ t (returns-clause-ends g c))).0

pub returns-clause-right : goal.returns-clause-right
returns-clause-right g c =
    let t = g.T.Integer.rank c.in-Some.end in
    reaches g.VCR.Value.PartialEq.eq (g.T.Integer.rank c.args.start) t c.args.right.now c.requires.right
    (at_most_both _ _ t (at_most_itself _ t (returns-clause-ends g c))).1
