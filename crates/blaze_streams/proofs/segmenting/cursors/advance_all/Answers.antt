use Rattle.blaze_streams.proofs.Words.{arith}
use Rattle.blaze_streams.proofs.Advanced.{partly_none, partly_more, partly_all}
use Rattle.blaze_streams.proofs.segmenting.cursors.advance_all.Goals as goal

pub loop-i-init : goal.loop-i-init
loop-i-init g c = partly_none (g.T.Integer.rank c.args.end) c.args.lists.now

pub loop-i-preserved : goal.loop-i-preserved
loop-i-preserved g c = partly_more (g.T.Integer.rank c.args.end) c.args.lists.now c.loop-i.lists c.loop-i.i c.index-lists-i.result c.advance.new.self c.loop-i.invariant (omega arith) c.advance.ensures

pub returns : goal.returns
returns g c = partly_all (g.T.Integer.rank c.args.end) c.args.lists.now c.loop-i.lists c.loop-i.i c.loop-i.invariant (omega arith)
