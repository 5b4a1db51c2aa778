use Rattle.blaze_entries.proofs.Words.{map, sym, subst, ◌∙◌, node_of, StartsAscend}
use Rattle.blaze_entries.proofs.Collected.{collected, as_entries_of_nodes}
use Rattle.blaze_entries.proofs.Held.{are_held, full_of, starts_of_held}
use Rattle.blaze_entries.proofs.tree.Tree.from_sorted.Goals as goal

pub invariant_of-result : goal.invariant_of-result
invariant_of-result g c =
    let rank = g.T.Integer.rank in
    let low = g.T.Integer.low in
    let high = g.T.Integer.high in
    let items = c.args.entries.items in
    are_held low high _ _
    (collected rank low high (map node_of items) c.in_ok-nodes.nodes
    (subst (StartsAscend low high) (sym (as_entries_of_nodes rank items)) (starts_of_held low high _ c.requires))
    c.in_ok-nodes.ensures g.T.Integer.of_rank g.met.T.Integer.ranked.has_key ∙ as_entries_of_nodes rank items) c.requires

pub returns : goal.returns
returns g c =
    let rank = g.T.Integer.rank in
    let low = g.T.Integer.low in
    let high = g.T.Integer.high in
    let items = c.args.entries.items in
    full_of _ _
    (collected rank low high (map node_of items) c.in_ok-nodes.nodes
    (subst (StartsAscend low high) (sym (as_entries_of_nodes rank items)) (starts_of_held low high _ c.requires))
    c.in_ok-nodes.ensures g.T.Integer.of_rank g.met.T.Integer.ranked.has_key ∙ as_entries_of_nodes rank items)
