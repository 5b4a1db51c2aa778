use Rattle.blaze_table.proofs.Words.{subst, CountedEntries, IsRangeCut}
use Rattle.blaze_table.proofs.Cuts.Cutting.{range_cut_map}
use Rattle.blaze_table.proofs.table.RangeTable.cut_range.Goals as goal

pub returns-clause-ok : goal.returns-clause-ok
returns-clause-ok g c =
    let rank = g.T.Integer.rank in
    let eq = g.V.PartialEq.eq in
    let new = c.cut_range.new.entries.entries in
    subst (λ (s : CountedEntries g.row.V.Denot). IsRangeCut eq g.T.Integer.low g.T.Integer.high (rank c.args.lo) (rank c.args.hi) s.entries new) c.self.view_is
    (range_cut_map eq g.met.V.Eq.laws g.T.Integer.low g.T.Integer.high _ (rank c.args.lo) (rank c.args.hi) c.requires.order _ new
    c.self.invariant.canonical c.in_ok-len.ensures.cut)
