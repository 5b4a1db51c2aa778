use Rattle.blaze_entries.proofs.Words.{shown_entry}
use Rattle.blaze_entries.proofs.Steps.{first_node_taken, taken_is_full, answers_taken, goes_first}
use Rattle.blaze_entries.proofs.into_iter.IntoIterIterator.next.Goals as goal

pub given-requires : goal.given-requires
given-requires g c = taken_is_full (first_node_taken g.T.Integer.rank (λ p. p) _ c.next.result _ c.self.invariant c.next.ensures.steps)

pub invariant_of-self : goal.invariant_of-self
invariant_of-self g c = (first_node_taken g.T.Integer.rank (λ p. p) _ c.next.result _ c.self.invariant c.next.ensures.steps).others

pub returns-clause-steps : goal.returns-clause-steps
returns-clause-steps g c =
    answers_taken (first_node_taken g.T.Integer.rank (λ p. p) _ c.next.result _ c.self.invariant c.next.ensures.steps)
    (shown_entry g.T.Integer.rank (λ v. v)) c.given.result c.given.ensures c.self.view_is

pub returns-clause-goes : goal.returns-clause-goes
returns-clause-goes g c = goes_first _ (λ _. tt) (shown_entry g.T.Integer.rank (λ v. v)) c.given.result _ _ (returns-clause-steps g c)
