use Rattle.blaze_iters.proofs.Words.{subst, IsRangeMap, range_map_part}
use Rattle.blaze_iters.proofs.tables.seeking_range_values.SeekingRangeValuesIterSortedDisjointMapRef.in_hand.Goals as goal

pub returns : goal.returns
returns g c =
    let eq = g.V.PartialEq.eq in
    subst (IsRangeMap eq g.T.Integer.low g.T.Integer.high) c.self.view_is
    (range_map_part eq g.met.V.Eq.laws g.T.Integer.low g.T.Integer.high _ _ c.in_hand.ensures c.self.invariant)
