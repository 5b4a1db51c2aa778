use Rattle.blaze_iters.proofs.Words.{ap, map}
use Rattle.blaze_iters.proofs.Steps.{goes_first}
use Rattle.blaze_iters.proofs.values.ValuesIterator.next.Goals as goal

pub returns-clause-steps : goal.returns-clause-steps
returns-clause-steps g c = rw (← c.self.view_is) (ap (map (λ (p : g.row.T.Denot × g.row.VC-Value.Denot). p.1)) c.in_ok-value.ensures.steps.0, c.in_ok-value.ensures.steps.1)

pub returns-clause-goes : goal.returns-clause-goes
returns-clause-goes g c = goes_first _ _ _ _ _ _ tt (returns-clause-steps g c).0
