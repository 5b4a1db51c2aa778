use Rattle.blaze_table.proofs.Words.{ap, CountedEntries}
use Rattle.blaze_table.proofs.Cuts.Backs.{end_moved, last_out}
use Rattle.blaze_entries.proofs.EditLists.{length-with_last_end}
use Rattle.blaze_table.proofs.Walks.Worked.{worked_none, worked_edited}
use Rattle.blaze_table.proofs.cut.cut_back.Goals as goal

pub returns-in-Some-clause-cut : goal.returns-in-Some-clause-cut
returns-in-Some-clause-cut g c =
    end_moved g.T.Integer.rank g.V.Clone.is_clone c.args.entry c.args.entries.now.entries c.requires.held g.V.PartialEq.eq g.met.V.Eq.laws g.T.Integer.low g.T.Integer.high c.in_hand.ensures c.requires.canonical c.requires.clones
    c.in-Some.value c.in-Some.is _ c.sub_one.ensures c.set_last_end.new.self.entries (ap (λ (s : CountedEntries g.row.V.Denot). s.entries) c.set_last_end.ensures)

pub returns-in-Some-clause-worked : goal.returns-in-Some-clause-worked
returns-in-Some-clause-worked g c =
    worked_edited 0 0 c.args.entries.now c.args.entries.now c.set_last_end.new.self _ (worked_none 0 0 c.args.entries.now) c.set_last_end.ensures
    (length-with_last_end (g.T.Integer.rank c.sub_one.result) c.args.entries.now.entries)

pub returns-in-None-clause-cut : goal.returns-in-None-clause-cut
returns-in-None-clause-cut g c =
    last_out g.T.Integer.rank g.V.Clone.is_clone c.args.entry c.args.entries.now.entries c.requires.held g.V.PartialEq.eq g.met.V.Eq.laws g.T.Integer.low g.T.Integer.high c.in_hand.ensures c.requires.canonical
    c.in-None.is c.remove_last.result c.remove_last.new.self.entries c.remove_last.ensures.removed
