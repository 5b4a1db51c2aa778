use Rattle.blaze_entries.proofs.Words.{sym, ◌∙◌, rules}
use Rattle.blaze_entries.proofs.NodeLists.{last_end_written}
use Rattle.blaze_entries.proofs.tree.edits.change_last_end.Goals as goal

pub returns-in-Some : goal.returns-in-Some
returns-in-Some g c =
    last_end_written g.T.Integer.rank g.T.Integer.low g.T.Integer.high c.args.nodes.now.entries _ _ c.args.end c.get_mut.result.now _ c.requires
    c.in-Some.ensures.key (sym c.in-Some.ensures.value.0 ∙ c.get_mut.ensures.value) c.in-Some.ensures.update.1 (search rules)
