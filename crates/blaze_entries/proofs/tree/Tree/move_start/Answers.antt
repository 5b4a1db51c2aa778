use Rattle.blaze_entries.proofs.Words.{◌≡◌, length, ap, sym, subst, ◌∙◌, None, IsSome, entries_of, start_at, IsStartMoved}
use Rattle.blaze_entries.proofs.Held.{nodes_ascend, are_held, start_moved_full}
use Rattle.blaze_entries.proofs.Borrowed.{absent_at, present_at}
use Rattle.blaze_entries.proofs.Moves.{start_moved, length_moved}
use Rattle.blaze_entries.proofs.tree.Tree.move_start.Goals as goal

pub move_node-requires-clause-starts : goal.move_node-requires-clause-starts
move_node-requires-clause-starts g c = nodes_ascend g.T.Integer.low g.T.Integer.high _ c.self.invariant

pub move_node-requires-clause-present : goal.move_node-requires-clause-present
move_node-requires-clause-present g c =
    let k = g.T.Integer.rank c.args.from in
    present_at g.T.Integer.low g.T.Integer.high k _ c.self.invariant (subst (λ s. IsSome (start_at k s)) (sym c.self.view_is) c.requires.present)

pub move_node-requires-clause-absent : goal.move_node-requires-clause-absent
move_node-requires-clause-absent g c =
    let k = g.T.Integer.rank c.args.to in
    absent_at g.T.Integer.low g.T.Integer.high k _ c.self.invariant (subst (λ s. start_at k s ≡ None) (sym c.self.view_is) c.requires.absent)

pub invariant_of-self-2 : goal.invariant_of-self-2
invariant_of-self-2 g c =
    let low = g.T.Integer.low in
    let high = g.T.Integer.high in
    let m = start_moved_full low high _ _ _ _ c.self.invariant c.in_ok-move_node.ensures.ok in
    are_held low high _ _ m.1 (start_moved low high _ _ _ _ c.in_hand.ensures.from c.in_hand.ensures.to c.self.invariant.ascend m.0)

pub returns-clause-ok : goal.returns-clause-ok
returns-clause-ok g c =
    let rank = g.T.Integer.rank in
    subst (λ s. IsStartMoved (rank c.args.from) (rank c.args.to) s (entries_of rank c.move_node.new.nodes.entries)) c.self.view_is
    (start_moved_full g.T.Integer.low g.T.Integer.high _ _ _ _ c.self.invariant c.in_ok-move_node.ensures.ok).0

pub returns-clause-length : goal.returns-clause-length
returns-clause-length g c = length_moved _ _ _ _ c.requires.present c.requires.absent (returns-clause-ok g c)
