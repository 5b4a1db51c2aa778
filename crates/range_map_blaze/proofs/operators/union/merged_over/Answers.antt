use Rattle.range_map_blaze.proofs.Words.{IfOk-weaker}
use Rattle.range_map_blaze.proofs.Choices.{chosen_into}
use Rattle.range_map_blaze.proofs.Unions.{union_of}
use Rattle.range_map_blaze.proofs.operators.union.merged_over.Goals as goal

pub returns : goal.returns
returns g c =
    IfOk-weaker c.merged_owned.result _ _
    (λ map union. union_of g.V.PartialEq.eq g.met.V.Eq.laws _ _ _ _ _ c.in_hand.ensures c.in_hand-2.ensures
    (chosen_into g.V.PartialEq.eq g.met.V.Eq.laws _ _ _ _ _ _ c.in_ok-over.ensures.0 union.chosen)) c.merged_owned.ensures
