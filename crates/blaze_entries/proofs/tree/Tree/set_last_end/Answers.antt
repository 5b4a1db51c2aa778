use Rattle.blaze_entries.proofs.Words.{ap, ◌∙◌, with_last_end}
use Rattle.blaze_entries.proofs.Ascending.{start_with_last_end}
use Rattle.blaze_entries.proofs.Edits.{last_end_set}
use Rattle.blaze_entries.proofs.Held.{are_held, full_of, nodes_ascend}
use Rattle.blaze_entries.proofs.tree.Tree.set_last_end.Goals as goal

pub change_last_end-requires : goal.change_last_end-requires
change_last_end-requires g c = nodes_ascend g.T.Integer.low g.T.Integer.high _ c.self.invariant

pub invariant_of-self : goal.invariant_of-self
invariant_of-self g c =
    let low = g.T.Integer.low in
    let high = g.T.Integer.high in
    are_held low high _ _ (last_end_set g.T.Integer.rank low high c.self.inside.nodes.entries _ c.self.invariant _ c.change_last_end.ensures)
    (start_with_last_end low high _ _ c.self.invariant.ascend)

pub returns : goal.returns
returns g c =
    full_of _ _ (last_end_set g.T.Integer.rank g.T.Integer.low g.T.Integer.high c.self.inside.nodes.entries _ c.self.invariant _ c.change_last_end.ensures)
    ∙ ap (with_last_end (g.T.Integer.rank c.args.end)) c.self.view_is
