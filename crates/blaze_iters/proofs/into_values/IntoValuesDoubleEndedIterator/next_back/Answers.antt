use Rattle.blaze_iters.proofs.into_values.IntoValuesDoubleEndedIterator.next_back.Goals as goal

pub returns-in-Err-clause-steps : goal.returns-in-Err-clause-steps
returns-in-Err-clause-steps g c = rw (← c.self.view_is) (rw c.in-Err.is at c.in_ok-value.ensures.steps)
