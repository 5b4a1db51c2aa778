use Rattle.blaze_entries.proofs.Words.{◌-◌, length, ◌∙◌, ap, slice_get}
use Rattle.blaze_entries.proofs.Borrowed.{full_borrowed, last_node}
use Rattle.blaze_entries.proofs.tree.Tree.last.Goals as goal

pub shown-requires : goal.shown-requires
shown-requires g c =
    full_borrowed g.T.Integer.rank c.last_key_value.result _
    (last_node g.T.Integer.rank c.self.inside.nodes.entries c.last_key_value.result c.last_key_value.ensures.last c.last_key_value.ensures.variant g.T.Integer.low g.T.Integer.high c.self.invariant)

pub returns : goal.returns
returns g c =
    c.shown.ensures _
    (last_node g.T.Integer.rank c.self.inside.nodes.entries c.last_key_value.result c.last_key_value.ensures.last c.last_key_value.ensures.variant g.T.Integer.low g.T.Integer.high c.self.invariant)
    ∙ ap (λ s. slice_get s (length s - 1)) c.self.view_is
