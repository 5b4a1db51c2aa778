use Rattle.blaze_table.proofs.Words.{subst, CountedEntries, SameEntries, same_cloned, table_as}
use Rattle.blaze_table.proofs.table.RangeTable.clone.Goals as goal

pub invariant_of-result : goal.invariant_of-result
invariant_of-result g c =
    let eq = g.V.PartialEq.eq in
    table_as eq g.met.V.Eq.laws g.T.Integer.low g.T.Integer.high _ c.self.inside.entries.counted.entries c.in_ok-entries.entries.counted.entries
    (same_cloned eq g.V.Clone.is_clone c.requires _ _ c.in_ok-entries.ensures.clones) c.self.invariant

pub returns-clause-same : goal.returns-clause-same
returns-clause-same g c =
    subst (λ (s : CountedEntries g.row.V.Denot). SameEntries g.V.PartialEq.eq s.entries c.in_ok-entries.entries.counted.entries) c.self.view_is
    (same_cloned g.V.PartialEq.eq g.V.Clone.is_clone c.requires _ _ c.in_ok-entries.ensures.clones)
