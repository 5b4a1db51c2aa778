use Rattle.range_map_multi.proofs.Words.{◌∙◌, ◌+◌, ◌∷◌, map, drop, sym, ap, subst, arith, drop_all, same_itself, at, SameOption, from_index, row, with_all}
use Rattle.range_map_multi.proofs.Around.{on_more}
use Rattle.range_map_multi.proofs.borrowed_intersections.part_on_all.Goals as goal

pub loop-map-init : goal.loop-map-init
loop-map-init g c = λ k. same_itself g.V.PartialEq.eq g.met.V.Eq.laws (with_all (at c.args.list k) (row (map g.M.AsMap.shown c.args.maps.now) k))

pub loop-map-preserved : goal.loop-map-preserved
loop-map-preserved g c =
    let shown = g.M.AsMap.shown in
    let maps = c.args.maps.now in
    let i = c.loop-map.map-index in
    on_more g.V.PartialEq.eq g.met.V.Eq.laws g.T.Integer.low g.T.Integer.high c.args.list c.loop-map.shared _ c.entries_of.result _ (map shown (drop (i + 1) maps)) (map shown maps)
    (ap (map shown) (from_index maps i c.map-item.result c.loop-map-test.true c.map-item.is) ∙ ap (λ z. z ∷ map shown (drop (i + 1) maps)) (sym c.entries_of.ensures)) c.in_ok-shared.ensures c.loop-map.invariant

pub returns : goal.returns
returns g c =
    λ k. subst (λ ms. SameOption g.V.PartialEq.eq (with_all (at c.loop-map.shared k) (row (map g.M.AsMap.shown ms) k)) (with_all (at c.args.list k) (row (map g.M.AsMap.shown c.args.maps.now) k)))
    (drop_all c.loop-map.map-index c.args.maps.now (omega arith)) (c.loop-map.invariant k)
