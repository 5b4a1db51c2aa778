use Rattle.blaze_entries.proofs.Words.{sym, subst, AnswersAt, IsCallableAtEach, IsFiltered, entries_of}
use Rattle.blaze_entries.proofs.Asked.{callable_at_nodes, filtered_at_nodes, held_nodes}
use Rattle.blaze_entries.proofs.tree.Tree.retain.Goals as goal

pub retain_by-requires : goal.retain_by-requires
retain_by-requires g c =
    callable_at_nodes g.T.Integer.rank g.F.FnMut c.args.f c.self.inside.nodes.entries c.self.invariant.full
    (subst (IsCallableAtEach g.T.Integer.rank g.F.FnMut c.args.f) (sym c.self.view_is) c.requires)

pub invariant_of-self : goal.invariant_of-self
invariant_of-self g c =
    held_nodes g.T.Integer.rank g.F.FnMut g.T.Integer.low g.T.Integer.high c.args.f _ _ c.self.invariant c.retain_by.ensures

pub returns : goal.returns
returns g c =
    subst (λ old. IsFiltered (AnswersAt g.T.Integer.rank g.F.FnMut) c.args.f old (entries_of g.T.Integer.rank c.retain_by.new.pairs.entries)) c.self.view_is
    (filtered_at_nodes g.T.Integer.rank g.F.FnMut c.args.f _ _ c.retain_by.ensures)
