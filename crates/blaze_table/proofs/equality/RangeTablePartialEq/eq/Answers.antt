use Rattle.blaze_table.proofs.Words.{content_decides}
use Rattle.blaze_table.proofs.equality.RangeTablePartialEq.eq.Goals as goal

pub returns-clause-content : goal.returns-clause-content
returns-clause-content g c =
    content_decides g.V.PartialEq.eq g.met.V.Eq.laws g.T.Integer.low g.T.Integer.high c.args.self.now.entries c.args.other.now.entries c.have_same_entries.result c.have_same_entries.ensures c.in_hand.ensures c.in_hand-2.ensures
