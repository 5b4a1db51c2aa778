use Rattle.range_map_blaze.proofs.Words.{◌∙◌, map, subst, sym, items_from_drains, YieldsList-from_vec, map-id, IsCanonicalOf, shown_point}
use Rattle.range_map_blaze.proofs.map.RangeMapBlaze.from_array.Goals as goal

pub returns : goal.returns
returns g c =
    let made = c.in_ok-new.ensures in
    let given = made.0 in
    let road = YieldsList-from_vec {s = given.0} c.in_ok-points.points.items given.2.0 (given.2.1 ∙ c.in_ok-points.points.ok.0) in
    let all = sym (map-id given.1) ∙ items_from_drains given.1 (given.3.1.0, given.3.1.1, λ _. (given.3.0, given.3.1.2)) road in
    (subst (λ items. IsCanonicalOf g.V.PartialEq.eq g.T.Integer.low g.T.Integer.high (map (shown_point g.T.Integer.rank (λ v. v)) items) c.in_ok-new.new.entries) (all ∙ c.in_ok-points.ensures.items) given.4, made.1)
