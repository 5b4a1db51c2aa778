use Rattle.range_map_blaze.proofs.Words.{subst, AreGapsFilled, IsMade}
use Rattle.range_map_blaze.proofs.AllKeys.{gaps_filled, every_key}
use Rattle.range_map_blaze.proofs.map.RangeMapBlaze.fill_gaps.Goals as goal

pub returns-clause-filled : goal.returns-clause-filled
returns-clause-filled g c =
    subst (λ map. IsMade (AreGapsFilled g.V.PartialEq.eq g.T.Integer.low g.T.Integer.high map.entries) c.in_ok-map.map) c.self.view_is
    (gaps_filled g.V.PartialEq.eq g.met.V.Eq.laws _ _ _ _ _ c.in_ok-stream.ensures c.in_ok-map.ensures.0, c.in_ok-map.ensures.1)

pub returns-clause-universal : goal.returns-clause-universal
returns-clause-universal g c =
    every_key g.V.PartialEq.eq g.met.V.Eq.laws _ _ _ _
    (gaps_filled g.V.PartialEq.eq g.met.V.Eq.laws _ _ _ _ _ c.in_ok-stream.ensures c.in_ok-map.ensures.0)
