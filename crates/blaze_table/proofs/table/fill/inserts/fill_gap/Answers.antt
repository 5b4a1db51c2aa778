use Rattle.blaze_table.proofs.Words.{[], ◌∷◌, map, ap, ◌∙◌, map-append}
use Rattle.blaze_table.proofs.table.fill.inserts.fill_gap.Goals as goal

pub returns-clause-ok : goal.returns-clause-ok
returns-clause-ok g c =
    let rank = g.T.Integer.rank in
    record {
      put = c.in_ok-insert_gap.ensures.ok;
      remembered = ap (map rank) c.in_ok-insert_gap.ensures.starts ∙ map-append rank c.args.made.now.starts.items (c.args.gap.start ∷ []);
      half = map rank c.note.new.join_keys.items;
      below = c.in_ok-note.ensures;
      above = c.in_ok-note_after.ensures;
    }
