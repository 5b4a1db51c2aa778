use Rattle.blaze_iters.proofs.Words.{ap, map, ◌∙◌, map-append}
use Rattle.blaze_iters.proofs.Steps.{goes_last}
use Rattle.blaze_iters.proofs.keys.KeysDoubleEndedIterator.next_back.Goals as goal

pub returns-clause-steps : goal.returns-clause-steps
returns-clause-steps g c =
    let part : g.row.T.Denot × g.row.VC-Value.Denot → g.row.T.Denot = λ p. p.0 in
    rw (← c.self.view_is) (ap (map part) c.in_ok-key.ensures.steps.0 ∙ map-append part _ _, c.in_ok-key.ensures.steps.1)

pub returns-clause-goes : goal.returns-clause-goes
returns-clause-goes g c = goes_last _ _ _ _ _ _ tt (returns-clause-steps g c).0
