use Rattle.blaze_table.proofs.Words.{lengths_are_mapped}
use Rattle.blaze_table.proofs.laws.lengths_are_mapped.Goals as goal

pub returns : goal.returns
returns g c = lengths_are_mapped g.V.PartialEq.eq g.met.V.Eq.laws
