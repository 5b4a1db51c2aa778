use Rattle.blaze_iters.proofs.Steps.{last_full, rest_disjoint, moved_last}
use Rattle.blaze_iters.proofs.into_iter_map.take_last.Goals as goal

pub returns-in-Some-clause-left : goal.returns-in-Some-clause-left
returns-in-Some-clause-left g c = moved_last _ _ _ _ c.in-Some.ensures

pub returns-in-Some-clause-owned : goal.returns-in-Some-clause-owned
returns-in-Some-clause-owned g c =
    let disjoint = rw c.in-Some.ensures at c.requires.1 in
    ((c.requires.0.0, last_full _ _ disjoint), rest_disjoint _ _ disjoint)
