use Rattle.blaze_entries.proofs.Words.{ap, ◌∙◌, below, from}
use Rattle.blaze_entries.proofs.Ascending.{start_lower}
use Rattle.blaze_entries.proofs.Edits.{split_below, split_from}
use Rattle.blaze_entries.proofs.Halves.{starts_from, starts_of_below}
use Rattle.blaze_entries.proofs.Held.{are_held, full_of}
use Rattle.blaze_entries.proofs.tree.Tree.split_off.Goals as goal

pub invariant_of-result : goal.invariant_of-result
invariant_of-result g c =
    let low = g.T.Integer.low in
    let high = g.T.Integer.high in
    let k = g.T.Integer.rank c.args.key in
    are_held low high _ _ (split_from g.T.Integer.rank low high c.self.inside.nodes.entries _ c.self.invariant c.args.key c.in_ok-nodes.ensures.from)
    (start_lower k low high _ c.in_hand.ensures.from (starts_from k low high _ c.self.invariant.ascend))

pub invariant_of-self-2 : goal.invariant_of-self-2
invariant_of-self-2 g c =
    let low = g.T.Integer.low in
    let high = g.T.Integer.high in
    are_held low high _ _ (split_below g.T.Integer.rank low high c.self.inside.nodes.entries _ c.self.invariant c.args.key c.in_ok-nodes.ensures.below)
    (starts_of_below _ low high _ c.self.invariant.ascend)

pub returns-clause-below : goal.returns-clause-below
returns-clause-below g c =
    full_of _ _ (split_below g.T.Integer.rank g.T.Integer.low g.T.Integer.high c.self.inside.nodes.entries _ c.self.invariant c.args.key c.in_ok-nodes.ensures.below)
    ∙ ap (below (g.T.Integer.rank c.args.key)) c.self.view_is

pub returns-clause-from : goal.returns-clause-from
returns-clause-from g c =
    full_of _ _ (split_from g.T.Integer.rank g.T.Integer.low g.T.Integer.high c.self.inside.nodes.entries _ c.self.invariant c.args.key c.in_ok-nodes.ensures.from)
    ∙ ap (from (g.T.Integer.rank c.args.key)) c.self.view_is
