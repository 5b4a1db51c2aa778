use Rattle.blaze_iters.proofs.Words.{ap, map}
use Rattle.blaze_iters.proofs.into_values.IntoValues.new.Goals as goal

pub returns-clause-values : goal.returns-clause-values
returns-clause-values g c = ap (map (λ p. p.1)) c.new.ensures.pairs
