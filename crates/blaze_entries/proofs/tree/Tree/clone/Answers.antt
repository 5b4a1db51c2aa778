use Rattle.blaze_entries.proofs.Words.{subst, AreCloned, entries_of}
use Rattle.blaze_entries.proofs.Clones.{cloned_held, cloned_entries}
use Rattle.blaze_entries.proofs.tree.Tree.clone.Goals as goal

pub invariant_of-result : goal.invariant_of-result
invariant_of-result g c =
    cloned_held g.T.Integer.rank g.V.Clone.is_clone _ (λ v h. h) (λ v w h. h) g.T.Integer.low g.T.Integer.high _ c.in_ok-nodes.nodes.entries c.self.invariant c.in_ok-nodes.ensures.cases

pub returns : goal.returns
returns g c =
    subst (λ s. AreCloned g.V.Clone.is_clone s (entries_of g.T.Integer.rank c.in_ok-nodes.nodes.entries)) c.self.view_is
    (cloned_entries g.T.Integer.rank g.V.Clone.is_clone _ (λ v h. h) (λ v w h. h) g.T.Integer.low g.T.Integer.high _ c.in_ok-nodes.nodes.entries c.self.invariant c.in_ok-nodes.ensures.cases)
