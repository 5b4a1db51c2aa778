use Rattle.blaze_table.proofs.Words.{ap, CountedEntries, entry}
use Rattle.blaze_table.proofs.Paints.Placing.{put_there, put_back}
use Rattle.blaze_table.proofs.table.fill.inserts.insert_gap.Goals as goal

pub remove-requires : goal.remove-requires
remove-requires g c = record {
  present =
      let rank = g.T.Integer.rank in
      put_there (entry (rank c.args.gap.start) (rank c.args.gap.end) c.args.value) c.args.entries.now.entries _
      (ap (λ (s : CountedEntries g.row.V.Denot). s.entries) c.in_ok-insert.ensures.ok);
}

pub returns-then-is_err-clause-err : goal.returns-then-is_err-clause-err
returns-then-is_err-clause-err g c =
    let rank = g.T.Integer.rank in
    put_back (entry (rank c.args.gap.start) (rank c.args.gap.end) c.args.value) c.args.entries.now.entries _ _ c.requires.absent
    (ap (λ (s : CountedEntries g.row.V.Denot). s.entries) c.in_ok-insert.ensures.ok)
    (ap (λ (s : CountedEntries g.row.V.Denot). s.entries) c.remove.ensures.entries)

pub returns-clause-ok : goal.returns-clause-ok
returns-clause-ok g c = ap (λ (s : CountedEntries g.row.V.Denot). s.entries) c.in_ok-insert.ensures.ok
