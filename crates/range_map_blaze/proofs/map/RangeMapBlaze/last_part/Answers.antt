use Rattle.range_map_blaze.proofs.Words.{subst, CountedEntries}
use Rattle.blaze_entries.specs.Cut.{IsSplit}
use Rattle.blaze_table.specs.Sides.{AreKeptBelow}
use Rattle.range_map_blaze.proofs.PartsTaken.{last_taken}
use Rattle.range_map_blaze.proofs.map.RangeMapBlaze.last_part.Goals as goal

pub returns-clause-ok : goal.returns-clause-ok
returns-clause-ok g c = λ h free.
    let eq = g.V.PartialEq.eq in
    let low = g.T.Integer.low in
    let high = g.T.Integer.high in
    let l = g.T.Integer.rank c.args.start in
    last_taken eq g.met.V.Eq.laws low high l h c.args.self.now.entries c.part_from.new.self.entries c.in_ok-table.table.entries c.in_hand.ensures
    (subst (λ (s : CountedEntries g.row.V.Denot). IsSplit eq low high l s.entries c.part_from.new.self.entries c.in_ok-table.table.entries) c.self.view_is c.in_ok-table.ensures.ok)
    (subst (λ (s : CountedEntries g.row.V.Denot). AreKeptBelow l s.entries c.part_from.new.self.entries) c.self.view_is c.in_ok-table.ensures.kept) free
