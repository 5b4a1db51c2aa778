use Rattle.blaze_entries.proofs.Words.{ap, ◌∙◌, with_end_value}
use Rattle.blaze_entries.proofs.Ascending.{start_with_end_value}
use Rattle.blaze_entries.proofs.Edits.{replaced}
use Rattle.blaze_entries.proofs.Held.{are_held, full_of}
use Rattle.blaze_entries.proofs.tree.Tree.replace.Goals as goal

pub invariant_of-self : goal.invariant_of-self
invariant_of-self g c =
    let low = g.T.Integer.low in
    let high = g.T.Integer.high in
    are_held low high _ _ (replaced g.T.Integer.rank low high c.self.inside.nodes.entries _ c.self.invariant c.args.start c.args.end c.args.value c.exchange.ensures.nodes)
    (start_with_end_value low high _ _ _ _ c.self.invariant.ascend)

pub returns : goal.returns
returns g c =
    full_of _ _ (replaced g.T.Integer.rank g.T.Integer.low g.T.Integer.high c.self.inside.nodes.entries _ c.self.invariant c.args.start c.args.end c.args.value c.exchange.ensures.nodes)
    ∙ ap (with_end_value (g.T.Integer.rank c.args.start) (g.T.Integer.rank c.args.end) c.args.value) c.self.view_is
