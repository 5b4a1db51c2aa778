use Rattle.blaze_entries.proofs.Words.{◌∙◌, ap, slice_get}
use Rattle.blaze_entries.proofs.Borrowed.{full_borrowed, node_at_index}
use Rattle.blaze_entries.proofs.tree.Tree.first.Goals as goal

pub shown-requires : goal.shown-requires
shown-requires g c =
    full_borrowed g.T.Integer.rank c.first_key_value.result _
    (node_at_index g.T.Integer.rank c.self.inside.nodes.entries 0 c.first_key_value.result c.first_key_value.ensures.first c.first_key_value.ensures.variant g.T.Integer.low g.T.Integer.high c.self.invariant)

pub returns : goal.returns
returns g c =
    c.shown.ensures _
    (node_at_index g.T.Integer.rank c.self.inside.nodes.entries 0 c.first_key_value.result c.first_key_value.ensures.first c.first_key_value.ensures.variant g.T.Integer.low g.T.Integer.high c.self.invariant)
    ∙ ap (λ s. slice_get s 0) c.self.view_is
