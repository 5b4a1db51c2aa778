use Rattle.blaze_streams.proofs.Words.{is_none, ◌∙◌, sym, at}
use Rattle.blaze_streams.proofs.LetGo.{left_let_go, right_let_go, right_none}
use Rattle.blaze_streams.proofs.segmenting.joins.skip.Goals as goal

pub let_go_below-requires-clause-none : goal.let_go_below-requires-clause-none
let_go_below-requires-clause-none g c =
    let t = g.T.Integer.rank c.args.end in
    right_none c.args.kind (at c.args.left.now t) (at c.args.right.now t) c.requires.alone.not_asked (sym c.is_asked.ensures ∙ c.if-is_asked.true)

pub let_go_below-requires-else-is_asked-clause-none : goal.let_go_below-requires-else-is_asked-clause-none
let_go_below-requires-else-is_asked-clause-none g c = is_none (at c.args.left.now (g.T.Integer.rank c.args.end)) (sym c.is_asked.ensures ∙ c.if-is_asked.false)

pub returns-then-is_asked : goal.returns-then-is_asked
returns-then-is_asked g c =
    left_let_go c.args.kind (g.T.Integer.rank c.args.end) g.T.Integer.high c.args.left.now c.let_go_below.new.cursor c.args.right.now c.args.right.now c.requires.alone
    (sym c.is_asked.ensures ∙ c.if-is_asked.true) c.let_go_below.ensures

pub returns-else-is_asked : goal.returns-else-is_asked
returns-else-is_asked g c =
    right_let_go c.args.kind (g.T.Integer.rank c.args.end) g.T.Integer.high c.args.left.now c.args.left.now c.args.right.now c.let_go_below-else-is_asked.new.cursor c.requires.alone c.let_go_below-else-is_asked.ensures
