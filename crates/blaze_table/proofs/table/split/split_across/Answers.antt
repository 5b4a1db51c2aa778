use Rattle.blaze_table.proofs.Words.{◌<ℤ◌, ◌∙◌, ap, arith, ints, CountedEntries, with_end}
use Rattle.blaze_table.proofs.Neighbours.Holders.{entry_containing, present, absent_inside}
use Rattle.blaze_table.proofs.Cuts.Parts.{kept_inside}
use Rattle.blaze_table.proofs.Cuts.SplitEdits.{starts_under, split_inside, clone_there, clone_removed}
use Rattle.blaze_table.proofs.table.split.split_across.Goals as goal

pub insert_clone-requires-clause-present : goal.insert_clone-requires-clause-present
insert_clone-requires-clause-present g c =
    present g.V.PartialEq.eq _ g.T.Integer.high _ _ _ (entry_containing g.V.PartialEq.eq _ g.T.Integer.high _ g.T.Integer.low _ _ c.in_hand.ensures c.requires.canonical c.requires.found)

pub insert_clone-requires-clause-absent : goal.insert_clone-requires-clause-absent
insert_clone-requires-clause-absent g c =
    let eq = g.V.PartialEq.eq in
    let k = g.T.Integer.rank c.args.key in
    let h = entry_containing eq k g.T.Integer.high c.args.entries.now.counted.entries g.T.Integer.low _ _ c.in_hand.ensures c.requires.canonical c.requires.found in
    absent_inside eq k g.T.Integer.high c.args.entries.now.counted.entries _ _ h k (starts_under eq g.met.V.Eq.laws k g.T.Integer.high c.args.entries.now.counted.entries _ _ h) c.requires.reaches

pub sub_one-requires : goal.sub_one-requires
sub_one-requires g c = record {
  above =
      let under : g.T.Integer.rank c.args.ends.start <ℤ g.T.Integer.rank c.args.key =
      starts_under g.V.PartialEq.eq g.met.V.Eq.laws _ g.T.Integer.high _ _ _ (entry_containing g.V.PartialEq.eq _ g.T.Integer.high _ g.T.Integer.low _ _ c.in_hand.ensures c.requires.canonical c.requires.found) in
      omega (arith, ints, under, c.in_hand-2.ensures.from);
}

pub remove-requires : goal.remove-requires
remove-requires g c = record {
  present =
      clone_there g.V.PartialEq.eq g.met.V.Eq.laws (g.T.Integer.rank c.args.key) g.T.Integer.high c.args.entries.now.counted.entries _ _
      (entry_containing g.V.PartialEq.eq (g.T.Integer.rank c.args.key) g.T.Integer.high c.args.entries.now.counted.entries g.T.Integer.low _ _ c.in_hand.ensures c.requires.canonical c.requires.found)
      g.V.Clone.is_clone c.insert_clone.new.self.counted c.split_off.new.self.counted c.in_ok-insert_clone.ensures.ok c.in-Err.ensures.err;
}

pub returns-in-Ok-clause-split : goal.returns-in-Ok-clause-split
returns-in-Ok-clause-split g c =
    let rank = g.T.Integer.rank in
    let eq = g.V.PartialEq.eq in
    let k = rank c.args.key in
    let es = c.args.entries.now.counted.entries in
    split_inside eq g.met.V.Eq.laws k g.T.Integer.high es _ _ (entry_containing eq k g.T.Integer.high es g.T.Integer.low _ _ c.in_hand.ensures c.requires.canonical c.requires.found)
    g.V.Clone.is_clone c.requires.clones c.requires.reaches (rank c.sub_one.result) c.insert_clone.new.self.counted.entries c.set_end.new.self.entries c.in-Ok.from.counted.entries (omega (arith, ints, c.sub_one.ensures))
    c.in_ok-insert_clone.ensures.ok
    (ap (λ (s : CountedEntries g.row.V.Denot). s.entries) c.set_end.ensures ∙ ap (λ (s : CountedEntries g.row.V.Denot). with_end (rank c.args.ends.start) (rank c.sub_one.result) s.entries) c.in-Ok.ensures.below)
    (ap (λ (s : CountedEntries g.row.V.Denot). s.entries) c.in-Ok.ensures.from)

pub returns-in-Ok-clause-kept : goal.returns-in-Ok-clause-kept
returns-in-Ok-clause-kept g c =
    let eq = g.V.PartialEq.eq in
    let k = g.T.Integer.rank c.args.key in
    let es = c.args.entries.now.counted.entries in
    kept_inside eq g.met.V.Eq.laws k g.T.Integer.high es _ _ (entry_containing eq k g.T.Integer.high es g.T.Integer.low _ _ c.in_hand.ensures c.requires.canonical c.requires.found)
    g.V.Clone.is_clone c.insert_clone.new.self.counted.entries c.in-Ok.from.counted.entries c.requires.reaches c.in_ok-insert_clone.ensures.ok
    (ap (λ (s : CountedEntries g.row.V.Denot). s.entries) c.in-Ok.ensures.from)

pub returns-in-Err-clause-err : goal.returns-in-Err-clause-err
returns-in-Err-clause-err g c =
    let eq = g.V.PartialEq.eq in
    let k = g.T.Integer.rank c.args.key in
    let h = entry_containing eq k g.T.Integer.high c.args.entries.now.counted.entries g.T.Integer.low _ _ c.in_hand.ensures c.requires.canonical c.requires.found in
    clone_removed g.V.Clone.is_clone _ k c.args.entries.now.counted c.insert_clone.new.self.counted c.split_off.new.self.counted c.remove.new.self.counted
    (absent_inside eq k g.T.Integer.high c.args.entries.now.counted.entries _ _ h k (starts_under eq g.met.V.Eq.laws k g.T.Integer.high c.args.entries.now.counted.entries _ _ h) c.requires.reaches)
    c.in_ok-insert_clone.ensures.ok c.in_ok-insert_clone.ensures.same c.in-Err.ensures.err c.remove.ensures.entries
