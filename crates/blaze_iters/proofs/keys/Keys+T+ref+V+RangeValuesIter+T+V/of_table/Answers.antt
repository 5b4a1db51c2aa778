use Rattle.blaze_iters.proofs.Words.{ap, map}
use Rattle.blaze_iters.proofs.keys.Keys+T+ref+V+RangeValuesIter+T+V.of_table.Goals as goal

pub returns-clause-keys : goal.returns-clause-keys
returns-clause-keys g c = ap (map (λ p. p.0)) c.of_table.ensures.pairs
