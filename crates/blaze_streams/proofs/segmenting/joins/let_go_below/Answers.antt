use Rattle.blaze_streams.proofs.LetGo.{absent_above, let_go_to}
use Rattle.blaze_streams.proofs.segmenting.joins.let_go_below.Goals as goal

pub returns-in-Some : goal.returns-in-Some
returns-in-Some g c =
    let t = g.T.Integer.rank c.args.end in
    let_go_to g.VCO.Value.PartialEq.eq t g.T.Integer.high c.args.cursor.now c.advance.new.self c.args.other.now
    (g.T.Integer.rank c.in-Some.first) (g.T.Integer.rank c.sub_one.result)
    c.in-Some.ensures.first c.in-Some.ensures.canonical (absent_above t c.args.other.now c.requires.reaches c.requires.none) c.in_hand-in-Some.ensures.to c.sub_one.ensures c.advance.ensures
