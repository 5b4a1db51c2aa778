use Rattle.blaze_entries.proofs.Words.{ap, sym, ◌∙◌, is_at, int_cmp, on}
use Rattle.blaze_entries.proofs.Changes.{changed_found, changed_absent}
use Rattle.blaze_entries.proofs.tree.edits.change_end.Goals as goal

pub returns-in-Some : goal.returns-in-Some
returns-in-Some g c =
    (c.get_mut.follows.holds _).0
    ∙ changed_found (is_at (on g.T.Integer.rank int_cmp c.args.start)) (λ s. record s { end = c.args.end }) c.args.nodes.now.entries c.in-Some.node.now (sym c.in-Some.ensures.value)

pub returns-in_default : goal.returns-in_default
returns-in_default g c =
    ap (λ n. n.entries) c.get_mut.follows.holds-at-none ∙ sym (changed_absent (is_at (on g.T.Integer.rank int_cmp c.args.start)) (λ s. record s { end = c.args.end }) c.args.nodes.now.entries (sym (rw c.in_default.is at c.get_mut.ensures.value)))
