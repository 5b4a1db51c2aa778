use Rattle.range_map_multi.proofs.Words.{◌∙◌, ◌+◌, length, map, take, refl, ap, arith, between, between_to_end, IfOk-weaker}
use Rattle.range_map_multi.proofs.Around.{parted, union_around}
use Rattle.range_map_multi.proofs.borrowed_unions.union_around_large.Goals as goal

pub returns : goal.returns
returns g c =
    let maps = c.args.maps.now in
    let i = c.args.position in
    let behind = between (i + 1) (length maps) maps in
    let shown = g.M.AsMap.shown in
    let large = c.as_borrowed.result.now.entries in
    let all = parted shown maps (take i maps) behind i c.index-maps-position.result large c.requires.there c.index-maps-position.is (ap (λ m. m.entries) c.as_borrowed.ensures ∙ g.met.M.AsMap.are_shown c.index-maps-position.result) refl (between_to_end maps (i + 1) (length maps) (omega arith)) in
    IfOk-weaker c.bitor-2.result _ _
    (λ new made. (union_around g.V.PartialEq.eq g.met.V.Eq.laws g.T.Integer.low g.T.Integer.high (map shown (take i maps)) (map shown behind) large c.in_ok-under.under.entries c.in_ok-map.map.entries c.in_ok-over.over.entries new.entries (map shown maps) all c.in_ok-under.ensures.0 c.in_ok-map.ensures.0 c.in_ok-over.ensures.0 made.0, made.1)) c.bitor-2.ensures
