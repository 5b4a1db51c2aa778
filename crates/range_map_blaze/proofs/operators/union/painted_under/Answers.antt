use Rattle.range_map_blaze.proofs.Paints.FilledFrom.{union_under}
use Rattle.range_map_blaze.proofs.operators.union.painted_under.Goals as goal

pub returns : goal.returns
returns g c = union_under g.V.PartialEq.eq g.met.V.Eq.laws _ _ _ _ _ c.in_hand.ensures c.in_hand-2.ensures c.in_ok-fill_ranges.ensures.ok
