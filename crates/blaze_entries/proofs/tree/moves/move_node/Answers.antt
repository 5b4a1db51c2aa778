use Rattle.blaze_entries.proofs.Words.{◌∙◌, ap, option_map, shown_nodes, shown_node_at}
use Rattle.blaze_entries.proofs.Moves.{is_start_moved, still_there}
use Rattle.blaze_entries.proofs.NodeLists.{as_entries_insert, as_entries_remove, as_entries_set, as_entries_lookup}
use Rattle.blaze_entries.proofs.tree.moves.move_node.Goals as goal

pub returns-in-Some-clause-ok : goal.returns-in-Some-clause-ok
returns-in-Some-clause-ok g c =
    let rank = g.T.Integer.rank in
    is_start_moved _ _ _ _ g.T.Integer.low g.T.Integer.high _ _ _ _ _ c.requires.starts c.requires.present c.requires.absent
    (ap (shown_nodes rank) c.in_ok-insert_node.ensures.ok ∙ as_entries_insert rank c.args.to _ c.args.place)
    (ap (option_map (shown_node_at rank c.args.from)) c.in-Some.ensures.value ∙ as_entries_lookup rank c.args.from _)
    (ap (shown_nodes rank) c.in-Some.ensures.entries ∙ as_entries_remove rank c.args.from _)
    (ap (shown_nodes rank) c.exchange.ensures.nodes ∙ as_entries_set rank c.args.to _ _ _)

pub returns-in_default-clause-ok : goal.returns-in_default-clause-ok
returns-in_default-clause-ok g c =
    let rank = g.T.Integer.rank in
    absurd (still_there _ _ _ _ _ _ c.requires.present c.requires.absent
    (ap (shown_nodes rank) c.in_ok-insert_node.ensures.ok ∙ as_entries_insert rank c.args.to _ c.args.place)
    (rw c.in_default.is at (ap (option_map (shown_node_at rank c.args.from)) c.remove.ensures.value ∙ as_entries_lookup rank c.args.from _)))
