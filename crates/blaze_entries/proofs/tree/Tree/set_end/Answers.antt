use Rattle.blaze_entries.proofs.Words.{ap, ◌∙◌, with_end}
use Rattle.blaze_entries.proofs.Ascending.{start_with_end}
use Rattle.blaze_entries.proofs.Edits.{end_set}
use Rattle.blaze_entries.proofs.Held.{are_held, full_of}
use Rattle.blaze_entries.proofs.tree.Tree.set_end.Goals as goal

pub invariant_of-self : goal.invariant_of-self
invariant_of-self g c =
    let low = g.T.Integer.low in
    let high = g.T.Integer.high in
    are_held low high _ _ (end_set g.T.Integer.rank low high c.self.inside.nodes.entries _ c.self.invariant c.args.start c.args.end c.change_end.ensures)
    (start_with_end low high _ _ _ c.self.invariant.ascend)

pub returns : goal.returns
returns g c =
    full_of _ _ (end_set g.T.Integer.rank g.T.Integer.low g.T.Integer.high c.self.inside.nodes.entries _ c.self.invariant c.args.start c.args.end c.change_end.ensures)
    ∙ ap (with_end (g.T.Integer.rank c.args.start) (g.T.Integer.rank c.args.end)) c.self.view_is
