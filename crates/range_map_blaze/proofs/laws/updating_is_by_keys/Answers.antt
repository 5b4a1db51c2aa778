use Rattle.range_map_blaze.proofs.Edits.ByKeys.{updating_is_by_keys}
use Rattle.range_map_blaze.proofs.laws.updating_is_by_keys.Goals as goal

pub returns : goal.returns
returns g c = updating_is_by_keys _ _ g.V.PartialEq.eq g.met.V.Eq.laws g.T.Integer.low g.T.Integer.high
