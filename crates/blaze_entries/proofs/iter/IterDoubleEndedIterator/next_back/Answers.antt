use Rattle.blaze_entries.proofs.Words.{deref_pair, shown_entry}
use Rattle.blaze_entries.proofs.Steps.{last_node_taken, taken_is_full, answers_taken, goes_last}
use Rattle.blaze_entries.proofs.iter.IterDoubleEndedIterator.next_back.Goals as goal

pub shown-requires : goal.shown-requires
shown-requires g c = taken_is_full (last_node_taken g.T.Integer.rank deref_pair _ c.next_back.result _ c.self.invariant c.next_back.ensures.steps)

pub invariant_of-self : goal.invariant_of-self
invariant_of-self g c = (last_node_taken g.T.Integer.rank deref_pair _ c.next_back.result _ c.self.invariant c.next_back.ensures.steps).others

pub returns-clause-steps : goal.returns-clause-steps
returns-clause-steps g c =
    answers_taken (last_node_taken g.T.Integer.rank deref_pair _ c.next_back.result _ c.self.invariant c.next_back.ensures.steps)
    (shown_entry g.T.Integer.rank (λ v. v.now)) c.shown.result c.shown.ensures c.self.view_is

pub returns-clause-goes : goal.returns-clause-goes
returns-clause-goes g c = goes_last _ (λ _. tt) (shown_entry g.T.Integer.rank (λ v. v.now)) c.shown.result _ _ (returns-clause-steps g c)
