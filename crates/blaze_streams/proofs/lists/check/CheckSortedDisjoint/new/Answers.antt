use Rattle.blaze_streams.proofs.Words.{unit_eq, unit_laws}
use Rattle.blaze_streams.proofs.FirstViolation.{broken}
use Rattle.blaze_streams.proofs.lists.check.CheckSortedDisjoint.new.Goals as goal

pub returns-in-Some-clause-accepted : goal.returns-in-Some-clause-accepted
returns-in-Some-clause-accepted g c = (λ p. cc, λ r. absurd (broken unit_eq unit_laws _ c.in-Some.at (rw c.as_slice.ensures.value at c.in-Some.ensures.some) r))
