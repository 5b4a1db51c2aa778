use Rattle.range_map_blaze.proofs.Words.{IfOk-weaker}
use Rattle.range_map_blaze.proofs.Unions.{union_of}
use Rattle.range_map_blaze.proofs.operators.union.merged.Goals as goal

pub returns : goal.returns
returns g c =
    IfOk-weaker c.borrowed_chosen.result _ _ (λ map. union_of g.V.PartialEq.eq g.met.V.Eq.laws _ _ _ _ _ c.in_hand.ensures c.in_hand-2.ensures)
    (rw (c.seeking_range_values.ensures, c.range_values.ensures) at c.borrowed_chosen.ensures)
