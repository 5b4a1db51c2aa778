use Rattle.range_map_blaze.proofs.Words.{IfOk-weaker}
use Rattle.range_map_blaze.proofs.Choices.{chosen_into, chosen_over}
use Rattle.range_map_blaze.proofs.Unions.{union_of}
use Rattle.range_map_blaze.proofs.operators.union.union_on.Goals as goal

pub returns-in_ok-clone-in-Over : goal.returns-in_ok-clone-in-Over
returns-in_ok-clone-in-Over g c =
    IfOk-weaker c.painted_over.result _ _
    (λ map union. union_of g.V.PartialEq.eq g.met.V.Eq.laws _ _ _ _ _ c.in_hand.ensures c.in_hand-2.ensures
    (chosen_over g.V.PartialEq.eq g.met.V.Eq.laws _ _ _ _ _ _ c.in_ok-clone-in-Over.ensures.0 union.chosen)) (rw c.range_values.ensures at c.painted_over.ensures)

pub returns-in_ok-clone-in-Under : goal.returns-in_ok-clone-in-Under
returns-in_ok-clone-in-Under g c =
    IfOk-weaker c.painted_under.result _ _
    (λ map union. union_of g.V.PartialEq.eq g.met.V.Eq.laws _ _ _ _ _ c.in_hand.ensures c.in_hand-2.ensures
    (chosen_into g.V.PartialEq.eq g.met.V.Eq.laws _ _ _ _ _ _ c.in_ok-clone-in-Under.ensures.0 union.chosen)) (rw c.range_values-in-Under.ensures at c.painted_under.ensures)
