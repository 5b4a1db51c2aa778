use Rattle.blaze_table.proofs.Words.{rules, ap, ◌∙◌, option_map, CountedEntries, shown_ends, entry}
use Rattle.blaze_table.proofs.Paints.Inner.{rest_under, new_gone}
use Rattle.blaze_table.proofs.Paints.Placing.{put_there, put_back, like_rest, above_there, new_room, new_started}
use Rattle.blaze_table.proofs.edit.place.insert_planned.Goals as goal

pub split_tail-requires-clause-room : goal.split_tail-requires-clause-room
split_tail-requires-clause-room g c =
    let rank = g.T.Integer.rank in
    new_room g.V.PartialEq.eq g.met.V.Eq.laws (entry (rank c.args.lo) (rank c.args.plan.end) c.args.value) c.requires.place.order c.args.entries.now.entries c.insert.new.self.entries c.requires.absent
    (ap (λ (s : CountedEntries g.row.V.Denot). s.entries) c.in_ok-insert.ensures.ok) (option_map (shown_ends rank) c.args.plan.tail) c.requires.place.tail

pub split_tail-requires-clause-tail_value : goal.split_tail-requires-clause-tail_value
split_tail-requires-clause-tail_value g c =
    let rank = g.T.Integer.rank in
    above_there g.V.PartialEq.eq g.met.V.Eq.laws rank (rank c.args.lo) c.args.entries.now.entries c.args.plan c.args.tail_value c.requires.canonical c.requires.place

pub remove-requires : goal.remove-requires
remove-requires g c = record {
  present =
      let rank = g.T.Integer.rank in
      put_there (entry (rank c.args.lo) (rank c.args.plan.end) c.args.value) c.args.entries.now.entries _
      (ap (λ (s : CountedEntries g.row.V.Denot). s.entries) (c.in-Err.ensures.err ∙ c.in_ok-insert.ensures.ok));
}

pub returns-in-Err-clause-err : goal.returns-in-Err-clause-err
returns-in-Err-clause-err g c = record {
  same =
      let rank = g.T.Integer.rank in
      put_back (entry (rank c.args.lo) (rank c.args.plan.end) c.args.value) c.args.entries.now.entries _ _ c.requires.absent
      (ap (λ (s : CountedEntries g.row.V.Denot). s.entries) (c.in-Err.ensures.err ∙ c.in_ok-insert.ensures.ok))
      (ap (λ (s : CountedEntries g.row.V.Denot). s.entries) c.remove.ensures.entries);
  counted = search rules;
}

pub returns-clause-ok : goal.returns-clause-ok
returns-clause-ok g c =
    let rank = g.T.Integer.rank in
    let eq = g.V.PartialEq.eq in
    let es = c.args.entries.now.entries in
    let like = like_rest eq g.met.V.Eq.laws rank (rank c.args.lo) es c.args.plan c.args.tail_value c.requires.canonical c.requires.place in
    new_started eq g.met.V.Eq.laws (entry (rank c.args.lo) (rank c.args.plan.end) c.args.value) c.requires.place.order es c.insert.new.self.entries c.requires.absent
    (ap (λ (s : CountedEntries g.row.V.Denot). s.entries) c.in_ok-insert.ensures.ok) (option_map (shown_ends rank) c.args.plan.tail) c.args.tail_value c.split_tail.new.entries.entries c.requires.place.tail like c.in_default.ensures.put

pub returns-clause-removed_count : goal.returns-clause-removed_count
returns-clause-removed_count g c =
    let rank = g.T.Integer.rank in
    let p = entry (rank c.args.lo) (rank c.args.plan.end) c.args.value in
    new_gone p c.args.plan.removed_count (option_map (shown_ends rank) c.args.plan.tail) c.args.tail_value c.args.entries.now.entries c.insert.new.self.entries c.split_tail.new.entries.entries c.requires.place.removed_count
    (rest_under (rank c.args.plan.end) c.args.entries.now.entries (option_map (shown_ends rank) c.args.plan.tail) c.requires.place.tail)
    (ap (λ (s : CountedEntries g.row.V.Denot). s.entries) c.in_ok-insert.ensures.ok) c.in_default.ensures.put
