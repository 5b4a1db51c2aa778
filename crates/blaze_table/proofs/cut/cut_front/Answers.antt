use Rattle.blaze_table.proofs.Words.{ap, CountedEntries}
use Rattle.blaze_table.proofs.Cuts.Fronts.{none_next, more_cut, one_cut, first_there}
use Rattle.blaze_table.proofs.cut.cut_front.Goals as goal

pub insert-requires : goal.insert-requires
insert-requires g c = record {
  absent = none_next g.T.Integer.rank g.V.Clone.is_clone c.args.entry g.V.PartialEq.eq g.met.V.Eq.laws g.T.Integer.low g.T.Integer.high c.in-Some.value c.in-Some.is _ c.add_one.ensures c.args.entries.now.entries c.in_hand.ensures c.requires.canonical c.requires.held;
}

pub remove_first-requires : goal.remove_first-requires
remove_first-requires g c = record {
  present = first_there _ c.args.entries.now.entries c.insert.new.self.entries (ap (λ (s : CountedEntries g.row.V.Denot). s.entries) c.in_ok-insert-in-Some.ensures.ok);
}

pub returns-in_ok-insert-in-Some-clause-cut : goal.returns-in_ok-insert-in-Some-clause-cut
returns-in_ok-insert-in-Some-clause-cut g c =
    more_cut g.T.Integer.rank g.V.Clone.is_clone c.args.entry g.V.PartialEq.eq g.met.V.Eq.laws g.T.Integer.low g.T.Integer.high c.in-Some.value c.in-Some.is _ c.add_one.ensures c.requires.clones c.args.entries.now.entries c.insert.new.self.entries c.remove_first.new.self.entries c.remove_first.result
    c.in_hand.ensures c.requires.canonical c.requires.held (ap (λ (s : CountedEntries g.row.V.Denot). s.entries) c.in_ok-insert-in-Some.ensures.ok) c.remove_first.ensures.removed

pub returns-in-None-clause-cut : goal.returns-in-None-clause-cut
returns-in-None-clause-cut g c =
    one_cut g.T.Integer.rank g.V.Clone.is_clone c.args.entry g.V.PartialEq.eq g.met.V.Eq.laws g.T.Integer.low g.T.Integer.high c.args.entries.now.entries c.remove_first-in-None.new.self.entries c.remove_first-in-None.result c.requires.canonical c.requires.held c.in-None.is c.remove_first-in-None.ensures.removed
