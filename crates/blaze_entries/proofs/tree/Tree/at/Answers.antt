use Rattle.blaze_entries.proofs.Words.{◌∙◌, ap, start_at}
use Rattle.blaze_entries.proofs.Edits.{borrowed_at}
use Rattle.blaze_entries.proofs.Borrowed.{full_borrowed, found_at}
use Rattle.blaze_entries.proofs.NodeLists.{as_entries_lookup}
use Rattle.blaze_entries.proofs.tree.Tree.at.Goals as goal

pub shown-requires : goal.shown-requires
shown-requires g c =
    let rank = g.T.Integer.rank in
    full_borrowed rank c.get_key_value.result _
    (borrowed_at rank c.args.start c.get_key_value.result _ c.get_key_value.ensures.value c.get_key_value.ensures.same_key
    ∙ as_entries_lookup rank c.args.start c.self.inside.nodes.entries ∙ found_at g.T.Integer.low g.T.Integer.high (rank c.args.start) _ c.self.invariant)

pub returns : goal.returns
returns g c =
    let rank = g.T.Integer.rank in
    c.shown.ensures _
    (borrowed_at rank c.args.start c.get_key_value.result _ c.get_key_value.ensures.value c.get_key_value.ensures.same_key
    ∙ as_entries_lookup rank c.args.start c.self.inside.nodes.entries ∙ found_at g.T.Integer.low g.T.Integer.high (rank c.args.start) _ c.self.invariant)
    ∙ ap (start_at (rank c.args.start)) c.self.view_is
