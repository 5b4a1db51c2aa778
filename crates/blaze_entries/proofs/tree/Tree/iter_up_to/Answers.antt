use Rattle.blaze_entries.proofs.Words.{pos, ◌+ℤ◌, ◌∙◌, ap, sym, below}
use Rattle.blaze_entries.proofs.Edits.{ranged_below, ranged_all}
use Rattle.blaze_entries.proofs.Held.{full_held, full_of}
use Rattle.blaze_entries.proofs.tree.Tree.iter_up_to.Goals as goal

pub new-requires : goal.new-requires
new-requires g c =
    full_held _ _ (ranged_below g.T.Integer.rank g.T.Integer.low g.T.Integer.high c.self.inside.nodes.entries c.range.result c.self.invariant c.in-Some.next (c.range.ensures.between tt))

pub new-requires-in-None : goal.new-requires-in-None
new-requires-in-None g c =
    full_held _ _ (ranged_all g.T.Integer.rank g.T.Integer.low g.T.Integer.high c.self.inside.nodes.entries c.range-in-None.result c.self.invariant (c.range-in-None.ensures.between tt))

pub returns-in-Some : goal.returns-in-Some
returns-in-Some g c =
    c.new.ensures
    ∙ full_of _ _ (ranged_below g.T.Integer.rank g.T.Integer.low g.T.Integer.high c.self.inside.nodes.entries c.range.result c.self.invariant c.in-Some.next (c.range.ensures.between tt))
    ∙ ap (below (g.T.Integer.rank c.in-Some.next)) c.self.view_is
    ∙ ap (λ z. below z c.args.self.now) c.in-Some.ensures.0

pub returns-in-None : goal.returns-in-None
returns-in-None g c =
    c.new-in-None.ensures
    ∙ full_of _ _ (ranged_all g.T.Integer.rank g.T.Integer.low g.T.Integer.high c.self.inside.nodes.entries c.range-in-None.result c.self.invariant (c.range-in-None.ensures.between tt))
    ∙ ap (below (g.T.Integer.high +ℤ pos 1)) c.self.view_is
    ∙ ap (λ z. below (z +ℤ pos 1) c.args.self.now) (sym c.in-None.ensures)
