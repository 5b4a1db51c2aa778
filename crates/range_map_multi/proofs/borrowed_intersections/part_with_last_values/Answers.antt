use Rattle.range_map_multi.proofs.Words.{◌+◌, [], map, take, refl, ap, sym, arith, nil_from_length, drop_all, IfOk-weaker, last_of_all}
use Rattle.range_map_multi.proofs.Many.{many_as}
use Rattle.range_map_multi.proofs.Around.{parted, last_alone, last_on}
use Rattle.range_map_multi.proofs.borrowed_intersections.part_with_last_values.Goals as goal

pub returns-in_default : goal.returns-in_default
returns-in_default g c =
    let eq = g.V.PartialEq.eq in
    let laws = g.met.V.Eq.laws in
    let low = g.T.Integer.low in
    let high = g.T.Integer.high in
    let none = ap (map g.M.AsMap.shown) (nil_from_length c.args.maps.now (omega arith)) in
    IfOk-weaker c.from_sorted_disjoint_map.result _ _ (λ new made. (many_as eq laws low high last_of_all _ _ _ (last_alone eq laws low high c.args.list _ none c.in_hand.ensures) made.0, made.1)) c.from_sorted_disjoint_map.ensures

pub returns : goal.returns
returns g c =
    let eq = g.V.PartialEq.eq in
    let laws = g.met.V.Eq.laws in
    let low = g.T.Integer.low in
    let high = g.T.Integer.high in
    let maps = c.args.maps.now in
    let end = c.in-Some.end in
    let all = parted g.M.AsMap.shown maps (take end maps) [] end c.index-maps-end.result c.entries_of.result (omega arith) c.index-maps-end.is c.entries_of.ensures refl (sym (drop_all (end + 1) maps (omega arith))) in
    let given = last_on eq laws low high c.args.list (map g.M.AsMap.shown (take end maps)) c.entries_of.result c.in_ok-shared.shared c.in_ok-last.last (map g.M.AsMap.shown maps) all c.in_ok-shared.ensures c.in_ok-last.ensures in
    IfOk-weaker c.from_sorted_disjoint_map-2.result _ _ (λ new made. (many_as eq laws low high last_of_all _ _ _ given made.0, made.1)) c.from_sorted_disjoint_map-2.ensures
