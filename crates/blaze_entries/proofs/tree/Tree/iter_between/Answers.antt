use Rattle.blaze_entries.proofs.Words.{◌∙◌, ap, from, up_to}
use Rattle.blaze_entries.proofs.Edits.{ranged_between}
use Rattle.blaze_entries.proofs.Held.{full_held, full_of}
use Rattle.blaze_entries.proofs.tree.Tree.iter_between.Goals as goal

pub new-requires-2 : goal.new-requires-2
new-requires-2 g c =
    full_held _ _ (ranged_between g.T.Integer.rank g.T.Integer.low g.T.Integer.high c.self.inside.nodes.entries c.range.result c.self.invariant c.args.first c.args.last (rw (c.new.ensures.start, c.new.ensures.end) at c.range.ensures.between c.new.ensures.exhausted))

pub returns : goal.returns
returns g c =
    c.new-2.ensures
    ∙ full_of _ _ (ranged_between g.T.Integer.rank g.T.Integer.low g.T.Integer.high c.self.inside.nodes.entries c.range.result c.self.invariant c.args.first c.args.last (rw (c.new.ensures.start, c.new.ensures.end) at c.range.ensures.between c.new.ensures.exhausted))
    ∙ ap (λ s. up_to (g.T.Integer.rank c.args.last) (from (g.T.Integer.rank c.args.first) s)) c.self.view_is
