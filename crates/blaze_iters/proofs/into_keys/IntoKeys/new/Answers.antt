use Rattle.blaze_iters.proofs.Words.{ap, map}
use Rattle.blaze_iters.proofs.into_keys.IntoKeys.new.Goals as goal

pub returns-clause-keys : goal.returns-clause-keys
returns-clause-keys g c = ap (map (λ p. p.0)) c.new.ensures.pairs
