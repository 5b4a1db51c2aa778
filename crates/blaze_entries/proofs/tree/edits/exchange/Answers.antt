use Rattle.blaze_entries.proofs.Words.{ap, sym, ◌∙◌, is_at, int_cmp, on}
use Rattle.blaze_entries.proofs.Changes.{changed_found, changed_absent}
use Rattle.blaze_entries.proofs.tree.edits.exchange.Goals as goal

pub returns-in-Some-clause-nodes : goal.returns-in-Some-clause-nodes
returns-in-Some-clause-nodes g c = rw c.replace.ensures.after
    ((c.get_mut.follows.holds _).0
    ∙ changed_found (is_at (on g.T.Integer.rank int_cmp c.args.start)) (λ _. c.args.node) c.args.nodes.now.entries c.in-Some.old.now (sym c.in-Some.ensures.value))

pub returns-in-None-clause-nodes : goal.returns-in-None-clause-nodes
returns-in-None-clause-nodes g c =
    ap (λ n. n.entries) c.get_mut.follows.holds-at-none ∙ sym (changed_absent (is_at (on g.T.Integer.rank int_cmp c.args.start)) (λ _. c.args.node) c.args.nodes.now.entries (sym c.in-None.ensures.value))
