use Rattle.range_map_multi.proofs.Words.{◌≡◌, ◌∙◌, subst, map-id, IfOk-weaker, is_some, SameOption, last_value, has_odd, last_of_odd, GivesEach}
use Rattle.range_map_multi.proofs.Many.{difference_of, many_as}
use Rattle.range_map_multi.proofs.borrowed_differences.difference_by_rounds.Goals as goal

pub returns : goal.returns
returns g c =
    let eq = g.V.PartialEq.eq in
    let laws = g.met.V.Eq.laws in
    let low = g.T.Integer.low in
    let high = g.T.Integer.high in
    let union = subst (λ Ls. GivesEach (λ xs x. SameOption eq x (last_value xs)) Ls c.in_ok-union.union) (map-id _ ∙ c.in_ok-streams_of.ensures) c.in_ok-union.ensures in
    let odd = subst (λ Ls. GivesEach (λ xs x. is_some x ≡ has_odd xs) Ls c.in_ok-odd.odd) (map-id _ ∙ c.in_ok-streams_of-2.ensures) c.in_ok-odd.ensures in
    let difference = difference_of eq laws low high _ _ _ _ union odd c.in_ok-list.ensures in
    IfOk-weaker c.from_sorted_disjoint_map.result _ _ (λ new made. (many_as eq laws low high last_of_odd _ _ _ difference made.0, made.1)) c.from_sorted_disjoint_map.ensures
