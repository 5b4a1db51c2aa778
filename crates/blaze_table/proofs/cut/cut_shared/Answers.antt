use Rattle.blaze_table.proofs.Words.{sym, ap, ◌∙◌, lt_holds, lt_fails, CountedEntries}
use Rattle.blaze_table.proofs.Cuts.CutEdits.{held_there, next_absent, end_taken, start_taken, inside_taken}
use Rattle.blaze_entries.proofs.EditLists.{length-with_end}
use Rattle.blaze_table.proofs.Walks.Worked.{worked_none, worked_edited, worked_put}
use Rattle.blaze_table.proofs.cut.cut_shared.Goals as goal

pub returns-then-not-is_below-clause-cut : goal.returns-then-not-is_below-clause-cut
returns-then-not-is_below-clause-cut g c =
    let rank = g.T.Integer.rank in
    end_taken g.V.PartialEq.eq g.met.V.Eq.laws (rank c.args.key) g.T.Integer.low g.T.Integer.high c.args.entries.now.entries c.in_hand.ensures c.requires.canonical g.V.Clone.is_clone c.requires.clones (rank c.args.start) (rank c.args.end) c.args.value c.requires.held
    (lt_fails (rank c.args.key) (rank c.args.end) (sym c.is_below.ensures ∙ c.if-not-is_below.true)) _ c.sub_one.ensures c.set_end.new.self.entries (ap (λ (s : CountedEntries g.row.V.Denot). s.entries) c.set_end.ensures)

pub returns-then-not-is_below-clause-worked : goal.returns-then-not-is_below-clause-worked
returns-then-not-is_below-clause-worked g c =
    let rank = g.T.Integer.rank in
    worked_edited 1 0 c.args.entries.now c.args.entries.now c.set_end.new.self _ (worked_none 1 0 c.args.entries.now) c.set_end.ensures
    (length-with_end (rank c.args.start) (rank c.sub_one.result) c.args.entries.now.entries)

pub move_start-requires-clause-present : goal.move_start-requires-clause-present
move_start-requires-clause-present g c =
    let rank = g.T.Integer.rank in
    held_there g.V.PartialEq.eq g.met.V.Eq.laws (rank c.args.key) g.T.Integer.low g.T.Integer.high c.args.entries.now.entries c.in_hand.ensures c.requires.canonical g.V.Clone.is_clone c.requires.clones (rank c.args.start) (rank c.args.end) c.args.value c.requires.held

pub move_start-requires-clause-absent : goal.move_start-requires-clause-absent
move_start-requires-clause-absent g c =
    let rank = g.T.Integer.rank in
    next_absent g.V.PartialEq.eq g.met.V.Eq.laws (rank c.args.key) g.T.Integer.low g.T.Integer.high c.args.entries.now.entries c.in_hand.ensures c.requires.canonical g.V.Clone.is_clone c.requires.clones (rank c.args.start) (rank c.args.end) c.args.value c.requires.held
    (lt_holds (rank c.args.key) (rank c.args.end) (sym c.is_below.ensures ∙ c.if-not-is_below.false)) _ c.add_one-next.ensures

pub returns-then-not-is_below-2-clause-cut : goal.returns-then-not-is_below-2-clause-cut
returns-then-not-is_below-2-clause-cut g c =
    let rank = g.T.Integer.rank in
    start_taken g.V.PartialEq.eq g.met.V.Eq.laws (rank c.args.key) g.T.Integer.low g.T.Integer.high c.args.entries.now.entries c.in_hand.ensures c.requires.canonical g.V.Clone.is_clone c.requires.clones (rank c.args.start) (rank c.args.end) c.args.value c.requires.held
    (lt_holds (rank c.args.key) (rank c.args.end) (sym c.is_below.ensures ∙ c.if-not-is_below.false)) _ c.add_one-next.ensures
    (lt_fails (rank c.args.start) (rank c.args.key) (sym c.is_below-2.ensures ∙ c.if-not-is_below-2.true)) c.move_start.new.self.entries c.in_ok-move_start.ensures.ok

pub insert-requires : goal.insert-requires
insert-requires g c = record {
  absent =
      let rank = g.T.Integer.rank in
      next_absent g.V.PartialEq.eq g.met.V.Eq.laws (rank c.args.key) g.T.Integer.low g.T.Integer.high c.args.entries.now.entries c.in_hand.ensures c.requires.canonical g.V.Clone.is_clone c.requires.clones (rank c.args.start) (rank c.args.end) c.args.value c.requires.held
      (lt_holds (rank c.args.key) (rank c.args.end) (sym c.is_below.ensures ∙ c.if-not-is_below.false)) _ c.add_one-next.ensures;
}

pub returns-clause-cut : goal.returns-clause-cut
returns-clause-cut g c =
    let rank = g.T.Integer.rank in
    inside_taken g.V.PartialEq.eq g.met.V.Eq.laws (rank c.args.key) g.T.Integer.low g.T.Integer.high c.args.entries.now.entries c.in_hand.ensures c.requires.canonical g.V.Clone.is_clone c.requires.clones (rank c.args.start) (rank c.args.end) c.args.value c.requires.held
    (lt_holds (rank c.args.key) (rank c.args.end) (sym c.is_below.ensures ∙ c.if-not-is_below.false)) _ c.add_one-next.ensures
    (lt_holds (rank c.args.start) (rank c.args.key) (sym c.is_below-2.ensures ∙ c.if-not-is_below-2.false)) c.in_ok-tail_value.tail_value c.in_ok-tail_value.ensures.cases _ c.sub_one-2.ensures
    c.insert.new.self.entries c.set_end-2.new.self.entries (ap (λ (s : CountedEntries g.row.V.Denot). s.entries) c.in_ok-insert.ensures.ok) (ap (λ (s : CountedEntries g.row.V.Denot). s.entries) c.set_end-2.ensures)

pub returns-clause-worked : goal.returns-clause-worked
returns-clause-worked g c =
    let rank = g.T.Integer.rank in
    worked_edited 1 0 c.args.entries.now c.insert.new.self c.set_end-2.new.self _ (worked_put c.args.entries.now c.insert.new.self _ c.in_ok-insert.ensures.ok c.in_ok-insert.ensures.longer) c.set_end-2.ensures
    (length-with_end (rank c.args.start) (rank c.sub_one-2.result) c.insert.new.self.entries)
