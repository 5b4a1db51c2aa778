use Rattle.blaze_table.proofs.Words.{ap, refl, CountedEntries}
use Rattle.blaze_table.proofs.Paints.Clearing.{there, none_there, left_from, kept_below}
use Rattle.blaze_table.proofs.Walks.Worked.{worked_none, worked_out}
use Rattle.blaze_table.proofs.edit.room.remove_next.Goals as goal

pub remove-requires : goal.remove-requires
remove-requires g c = record {
  present =
      let same = ap (λ (s : CountedEntries g.row.V.Denot). s.entries) c.in-Some.ensures.looked in
      (there (g.T.Integer.rank c.args.key) g.T.Integer.low g.T.Integer.high _ c.args.entries.now.entries same c.in_hand.ensures _ _ c.in-Some.ensures.found).1;
}

pub returns-clause-below : goal.returns-clause-below
returns-clause-below g c =
    let same = ap (λ (s : CountedEntries g.row.V.Denot). s.entries) c.in-Some.ensures.looked in
    let over = (there (g.T.Integer.rank c.args.key) g.T.Integer.low g.T.Integer.high _ c.args.entries.now.entries same c.in_hand.ensures _ _ c.in-Some.ensures.found).0 in
    kept_below (g.T.Integer.rank c.args.key) (g.T.Integer.rank c.in-Some.ends.start) _ _ _ _ over (ap (λ (s : CountedEntries g.row.V.Denot). s.entries) c.remove.ensures.entries) same refl

pub returns-clause-from : goal.returns-clause-from
returns-clause-from g c =
    let same = ap (λ (s : CountedEntries g.row.V.Denot). s.entries) c.in-Some.ensures.looked in
    left_from (g.T.Integer.rank c.args.key) g.T.Integer.low g.T.Integer.high _ c.args.entries.now.entries same c.in_hand.ensures _ _ _ c.in-Some.ensures.found
    (ap (λ (s : CountedEntries g.row.V.Denot). s.entries) c.remove.ensures.entries)

pub returns-clause-worked : goal.returns-clause-worked
returns-clause-worked g c =
    worked_out 0 0 c.args.entries.now c.args.entries.now c.range_at_or_above.new.self c.remove.new.self _ (worked_none 0 0 c.args.entries.now) c.in-Some.ensures.looked c.remove.ensures.entries c.remove.ensures.shorter

pub unreachable-requires : goal.unreachable-requires
unreachable-requires g c = none_there (g.T.Integer.rank c.args.key) c.args.entries.now.entries c.in-None.ensures.found c.requires
