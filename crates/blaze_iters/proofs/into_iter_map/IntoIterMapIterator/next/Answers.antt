use Rattle.blaze_iters.proofs.Words.{refl}
use Rattle.blaze_iters.proofs.Steps.{some_of_first, goes_refused}
use Rattle.blaze_iters.proofs.into_iter_map.IntoIterMapIterator.next.Goals as goal

pub returns-in-Err-clause-goes : goal.returns-in-Err-clause-goes
returns-in-Err-clause-goes g c =
    let some = some_of_first g.T.Integer.rank g.T.Integer.of_rank c.args.self.now (rw c.in-Err.is at c.in_ok-pair.ensures) in
    goes_refused _ _ _ _ _ c.requires some (rw c.end.ensures refl)
