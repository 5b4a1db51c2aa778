use Rattle.blaze_table.proofs.Words.{subst, CountedEntries, IsKeyRemoved, cut_map}
use Rattle.blaze_table.proofs.table.RangeTable.cut_key.Goals as goal

pub returns-clause-ok : goal.returns-clause-ok
returns-clause-ok g c =
    let rank = g.T.Integer.rank in
    let eq = g.V.PartialEq.eq in
    let new = c.cut.new.entries.entries in
    subst (λ (s : CountedEntries g.row.V.Denot). IsKeyRemoved eq g.T.Integer.low g.T.Integer.high (rank c.args.key) s.entries new) c.self.view_is
    (cut_map eq g.met.V.Eq.laws g.T.Integer.low g.T.Integer.high _ (rank c.args.key) _ _ new c.in_ok-value.ensures.cut)
