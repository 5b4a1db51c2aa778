use Rattle.blaze_table.proofs.Words.{one_per_run, canonical}
use Rattle.blaze_table.proofs.laws.structure_is_definition.Goals as goal

pub returns : goal.returns
returns g c = λ L. (one_per_run g.V.PartialEq.eq g.met.V.Eq.laws L, canonical g.V.PartialEq.eq g.met.V.Eq.laws L)
