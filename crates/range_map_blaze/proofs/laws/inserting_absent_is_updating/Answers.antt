use Rattle.range_map_blaze.proofs.Edits.ByKeys.{inserting_absent_is_updating}
use Rattle.range_map_blaze.proofs.laws.inserting_absent_is_updating.Goals as goal

pub returns : goal.returns
returns g c = inserting_absent_is_updating _ _ g.V.PartialEq.eq g.met.V.Eq.laws g.T.Integer.low g.T.Integer.high
