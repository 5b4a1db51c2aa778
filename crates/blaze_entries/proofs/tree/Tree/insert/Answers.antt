use Rattle.blaze_entries.proofs.Words.{◌≡◌, ◌+◌, length, ap, sym, subst, ◌∙◌, None, entry, with_entry, start_at}
use Rattle.blaze_entries.proofs.Ascending.{start_with_entry, length-with_entry}
use Rattle.blaze_entries.proofs.Edits.{inserted}
use Rattle.blaze_entries.proofs.Held.{are_held, full_of}
use Rattle.blaze_entries.proofs.tree.Tree.insert.Goals as goal

pub invariant_of-self-2 : goal.invariant_of-self-2
invariant_of-self-2 g c =
    let low = g.T.Integer.low in
    let high = g.T.Integer.high in
    are_held low high _ _
    (inserted g.T.Integer.rank low high c.self.inside.nodes.entries _ c.self.invariant c.args.start c.args.end c.args.value c.in_ok-insert_node.ensures.ok)
    (start_with_entry low high _ _ c.in_hand.ensures.from c.in_hand.ensures.to c.self.invariant.ascend)

pub returns-clause-ok : goal.returns-clause-ok
returns-clause-ok g c =
    full_of _ _ (inserted g.T.Integer.rank g.T.Integer.low g.T.Integer.high c.self.inside.nodes.entries _ c.self.invariant c.args.start c.args.end c.args.value c.in_ok-insert_node.ensures.ok)
    ∙ ap (with_entry (entry (g.T.Integer.rank c.args.start) (g.T.Integer.rank c.args.end) c.args.value)) c.self.view_is

pub returns-clause-longer : goal.returns-clause-longer
returns-clause-longer g c = ap length (returns-clause-ok g c) ∙ length-with_entry _ c.args.self.now c.requires.absent
