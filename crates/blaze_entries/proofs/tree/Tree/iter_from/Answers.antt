use Rattle.blaze_entries.proofs.Words.{◌∙◌, ap, from}
use Rattle.blaze_entries.proofs.Edits.{ranged_from}
use Rattle.blaze_entries.proofs.Held.{full_held, full_of}
use Rattle.blaze_entries.proofs.tree.Tree.iter_from.Goals as goal

pub new-requires : goal.new-requires
new-requires g c =
    full_held _ _ (ranged_from g.T.Integer.rank g.T.Integer.low g.T.Integer.high c.self.inside.nodes.entries c.range.result c.self.invariant c.args.key (c.range.ensures.between tt))

pub returns : goal.returns
returns g c =
    c.new.ensures
    ∙ full_of _ _ (ranged_from g.T.Integer.rank g.T.Integer.low g.T.Integer.high c.self.inside.nodes.entries c.range.result c.self.invariant c.args.key (c.range.ensures.between tt))
    ∙ ap (from (g.T.Integer.rank c.args.key)) c.self.view_is
