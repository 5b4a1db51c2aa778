use Rattle.range_map_blaze.proofs.Words.{subst, CountedEntries}
use Rattle.blaze_entries.specs.Cut.{IsSplit}
use Rattle.blaze_table.specs.Sides.{AreKeptFrom}
use Rattle.range_map_blaze.proofs.PartsTaken.{first_taken}
use Rattle.range_map_blaze.proofs.map.RangeMapBlaze.first_part.Goals as goal

pub returns-clause-ok : goal.returns-clause-ok
returns-clause-ok g c = λ l free.
    let eq = g.V.PartialEq.eq in
    let low = g.T.Integer.low in
    let high = g.T.Integer.high in
    let h = g.T.Integer.rank c.args.end in
    let n = g.T.Integer.rank c.add_one.result in
    first_taken eq g.met.V.Eq.laws low high l h c.args.self.now.entries c.part_below.new.self.entries c.in_ok-table.table.entries c.in_hand.ensures n c.add_one.ensures
    (subst (λ (s : CountedEntries g.row.V.Denot). IsSplit eq low high n s.entries c.in_ok-table.table.entries c.part_below.new.self.entries) c.self.view_is c.in_ok-table.ensures.ok)
    (subst (λ (s : CountedEntries g.row.V.Denot). AreKeptFrom n s.entries c.part_below.new.self.entries) c.self.view_is c.in_ok-table.ensures.kept) free
