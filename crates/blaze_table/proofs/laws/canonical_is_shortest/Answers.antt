use Rattle.blaze_table.proofs.Words.{canonical_is_shortest}
use Rattle.blaze_table.proofs.laws.canonical_is_shortest.Goals as goal

pub returns : goal.returns
returns g c = canonical_is_shortest g.V.PartialEq.eq g.met.V.Eq.laws
