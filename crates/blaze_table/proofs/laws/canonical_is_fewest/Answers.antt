use Rattle.blaze_table.proofs.Words.{canonical_is_fewest}
use Rattle.blaze_table.proofs.laws.canonical_is_fewest.Goals as goal

pub returns : goal.returns
returns g c = canonical_is_fewest g.V.PartialEq.eq g.met.V.Eq.laws
