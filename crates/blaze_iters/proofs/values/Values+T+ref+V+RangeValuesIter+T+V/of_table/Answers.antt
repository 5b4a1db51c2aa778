use Rattle.blaze_iters.proofs.Words.{ap, map}
use Rattle.blaze_iters.proofs.values.Values+T+ref+V+RangeValuesIter+T+V.of_table.Goals as goal

pub returns-clause-values : goal.returns-clause-values
returns-clause-values g c = ap (map (λ p. p.1)) c.of_table.ensures.pairs
