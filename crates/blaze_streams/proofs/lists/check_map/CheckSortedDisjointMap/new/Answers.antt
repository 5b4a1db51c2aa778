use Rattle.blaze_streams.proofs.FirstViolation.{broken}
use Rattle.blaze_streams.proofs.lists.check_map.CheckSortedDisjointMap.new.Goals as goal

pub new-requires : goal.new-requires
new-requires g c = record { range_map = rw c.as_slice.ensures.value at c.in-None.ensures.none }

pub returns-in-Some-clause-accepted : goal.returns-in-Some-clause-accepted
returns-in-Some-clause-accepted g c = (λ p. cc, λ r. absurd (broken g.VC.Value.PartialEq.eq g.met.VC.Value.Eq.laws _ c.in-Some.at (rw c.as_slice.ensures.value at c.in-Some.ensures.some) r))
