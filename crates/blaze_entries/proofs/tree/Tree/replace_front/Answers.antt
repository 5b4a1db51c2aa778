use Rattle.blaze_entries.proofs.Words.{◌≡◌, ◌+◌, length, ap, sym, subst, ◌∙◌, None, IsSome, entries_of, start_at, IsFrontReplaced}
use Rattle.blaze_entries.proofs.Held.{nodes_ascend, are_held, front_replaced_full}
use Rattle.blaze_entries.proofs.Borrowed.{absent_at, present_at}
use Rattle.blaze_entries.proofs.Moves.{start_front_replaced, length_front_replaced}
use Rattle.blaze_entries.proofs.tree.Tree.replace_front.Goals as goal

pub replace_node-requires-clause-starts : goal.replace_node-requires-clause-starts
replace_node-requires-clause-starts g c = nodes_ascend g.T.Integer.low g.T.Integer.high _ c.self.invariant

pub replace_node-requires-clause-present : goal.replace_node-requires-clause-present
replace_node-requires-clause-present g c =
    let k = g.T.Integer.rank c.args.start in
    present_at g.T.Integer.low g.T.Integer.high k _ c.self.invariant (subst (λ s. IsSome (start_at k s)) (sym c.self.view_is) c.requires.present)

pub replace_node-requires-clause-absent : goal.replace_node-requires-clause-absent
replace_node-requires-clause-absent g c =
    let k = g.T.Integer.rank c.args.to in
    absent_at g.T.Integer.low g.T.Integer.high k _ c.self.invariant (subst (λ s. start_at k s ≡ None) (sym c.self.view_is) c.requires.absent)

pub invariant_of-self-2 : goal.invariant_of-self-2
invariant_of-self-2 g c =
    let low = g.T.Integer.low in
    let high = g.T.Integer.high in
    let m = front_replaced_full low high _ _ c.args.value _ _ _ c.self.invariant c.in_ok-replace_node.ensures.ok in
    are_held low high _ _ m.1 (start_front_replaced low high _ _ _ c.args.value _ _ c.in_hand.ensures.from c.in_hand.ensures.to c.self.invariant.ascend m.0)

pub returns-clause-ok : goal.returns-clause-ok
returns-clause-ok g c =
    let rank = g.T.Integer.rank in
    subst (λ s. IsFrontReplaced (rank c.args.start) (rank c.args.end) c.args.value (rank c.args.to) s (entries_of rank c.replace_node.new.nodes.entries)) c.self.view_is
    (front_replaced_full g.T.Integer.low g.T.Integer.high _ _ c.args.value _ _ _ c.self.invariant c.in_ok-replace_node.ensures.ok).0

pub returns-clause-longer : goal.returns-clause-longer
returns-clause-longer g c = length_front_replaced _ _ _ c.args.value _ _ c.requires.absent (returns-clause-ok g c)
