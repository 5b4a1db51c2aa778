use Rattle.range_map_multi.proofs.Words.{◌∙◌, subst, map-id, IfOk-weaker, SameOption, last_of_all, GivesEach}
use Rattle.range_map_multi.proofs.Many.{many_as}
use Rattle.range_map_multi.proofs.borrowed_intersections.intersected.Goals as goal

pub returns : goal.returns
returns g c =
    let eq = g.V.PartialEq.eq in
    let given = subst (λ Ls. GivesEach (λ xs x. SameOption eq x (last_of_all xs)) Ls c.in_ok-list.list) (map-id _ ∙ c.in_ok-streams_of.ensures) c.in_ok-list.ensures in
    IfOk-weaker c.from_sorted_disjoint_map.result _ _
    (λ new made. (many_as eq g.met.V.Eq.laws g.T.Integer.low g.T.Integer.high last_of_all _ _ _ (record { range_map = c.in_hand.ensures; content = given }) made.0, made.1)) c.from_sorted_disjoint_map.ensures
