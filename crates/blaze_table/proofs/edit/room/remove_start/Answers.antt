use Rattle.blaze_table.proofs.Words.{is_none, ◌≡◌, false, Option, Some, None, refl, sym, ◌∙◌, is_some}
use Rattle.blaze_table.proofs.Paints.Clearing.{none_out}
use Rattle.blaze_table.proofs.edit.room.remove_start.Goals as goal

pub returns-else-is_removed-clause-entries : goal.returns-else-is_removed-clause-entries
returns-else-is_removed-clause-entries g c = sym (none_out (g.T.Integer.rank c.args.lo) c.args.entries.now.entries (is_none _ (sym c.requires ∙ c.if-is_removed.false)))
