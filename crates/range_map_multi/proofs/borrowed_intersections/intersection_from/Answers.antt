use Rattle.range_map_multi.proofs.Words.{◌∙◌, ◌+◌, length, map, take, refl, arith, between, between_to_end, IfOk-weaker}
use Rattle.range_map_multi.proofs.Around.{parted, intersection_around}
use Rattle.range_map_multi.proofs.borrowed_intersections.intersection_from.Goals as goal

pub returns : goal.returns
returns g c =
    let maps = c.args.maps.now in
    let i = c.args.position in
    let behind = between (i + 1) (length maps) maps in
    let shown = g.M.AsMap.shown in
    let all = parted shown maps (take i maps) behind i c.index-maps-position.result c.in_ok-first.first c.requires.there c.index-maps-position.is (c.in_ok-first.ensures ∙ c.entries_of.ensures) refl (between_to_end maps (i + 1) (length maps) (omega arith)) in
    IfOk-weaker c.part_with_last_values.result _ _
    (λ new made. (intersection_around g.V.PartialEq.eq g.met.V.Eq.laws g.T.Integer.low g.T.Integer.high (map shown (take i maps)) (map shown behind) c.in_ok-first.first c.in_ok-shared.shared new.entries (map shown maps) all c.in_ok-shared.ensures made.0, made.1)) c.part_with_last_values.ensures
