use Rattle.blaze_streams.proofs.Seeking.{sought_fewer, sought_same}
use Rattle.blaze_streams.proofs.cursor.let_go.Goals as goal

pub returns-clause-same : goal.returns-clause-same
returns-clause-same g c = sought_same _ _ _ c.seek.ensures

pub returns-clause-fewer : goal.returns-clause-fewer
returns-clause-fewer g c = sought_fewer _ _ _ c.seek.ensures
