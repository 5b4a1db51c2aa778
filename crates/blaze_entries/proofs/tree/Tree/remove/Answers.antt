use Rattle.blaze_entries.proofs.Words.{◌≡◌, ◌+◌, length, ap, sym, subst, ◌∙◌, Some, IsSome, option_map, shown_nodes, shown_node_at, full, without, start_at}
use Rattle.blaze_entries.proofs.Ascending.{start_without, length-without}
use Rattle.blaze_entries.proofs.Edits.{removed}
use Rattle.blaze_entries.proofs.Held.{are_held, full_of}
use Rattle.blaze_entries.proofs.Borrowed.{some_taken, full_taken, value_taken, found_at}
use Rattle.blaze_entries.proofs.NodeLists.{as_entries_lookup}
use Rattle.blaze_entries.proofs.tree.Tree.remove.Goals as goal

pub value_of-requires-clause-present : goal.value_of-requires-clause-present
value_of-requires-clause-present g c =
    let rank = g.T.Integer.rank in
    let k = rank c.args.start in
    some_taken rank c.args.start c.remove.result _
    (ap (option_map (shown_node_at rank c.args.start)) c.remove.ensures.value ∙ as_entries_lookup rank c.args.start c.self.inside.nodes.entries ∙ found_at g.T.Integer.low g.T.Integer.high k _ c.self.invariant)
    (subst (λ s. IsSome (start_at k s)) (sym c.self.view_is) c.requires.present)

pub value_of-requires-clause-full : goal.value_of-requires-clause-full
value_of-requires-clause-full g c =
    let rank = g.T.Integer.rank in
    full_taken rank c.args.start c.remove.result _
    (ap (option_map (shown_node_at rank c.args.start)) c.remove.ensures.value ∙ as_entries_lookup rank c.args.start c.self.inside.nodes.entries ∙ found_at g.T.Integer.low g.T.Integer.high (rank c.args.start) _ c.self.invariant)

pub invariant_of-self : goal.invariant_of-self
invariant_of-self g c =
    let low = g.T.Integer.low in
    let high = g.T.Integer.high in
    are_held low high _ _ (removed g.T.Integer.rank low high c.self.inside.nodes.entries _ c.self.invariant c.args.start c.remove.ensures.entries)
    (start_without low high _ _ c.self.invariant.ascend)

pub returns-clause-entries : goal.returns-clause-entries
returns-clause-entries g c =
    full_of _ _ (removed g.T.Integer.rank g.T.Integer.low g.T.Integer.high c.self.inside.nodes.entries _ c.self.invariant c.args.start c.remove.ensures.entries)
    ∙ ap (without (g.T.Integer.rank c.args.start)) c.self.view_is

pub returns-clause-value : goal.returns-clause-value
returns-clause-value g c =
    let rank = g.T.Integer.rank in
    let k = rank c.args.start in
    subst (λ s. option_map (λ e. e.value) (start_at k s) ≡ Some c.value_of.result) c.self.view_is
    (value_taken rank c.args.start c.remove.result _
    (ap (option_map (shown_node_at rank c.args.start)) c.remove.ensures.value ∙ as_entries_lookup rank c.args.start c.self.inside.nodes.entries ∙ found_at g.T.Integer.low g.T.Integer.high k _ c.self.invariant)
    c.value_of.result c.value_of.ensures)

pub returns-clause-shorter : goal.returns-clause-shorter
returns-clause-shorter g c =
    ap (λ es. length es + 1) (returns-clause-entries g c) ∙ length-without (g.T.Integer.rank c.args.start) c.args.self.now c.requires.present
