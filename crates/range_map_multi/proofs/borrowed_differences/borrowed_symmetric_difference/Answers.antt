use Rattle.range_map_multi.proofs.Words.{◌∙◌, map, ap, arith, IfOk-weaker}
use Rattle.range_map_multi.proofs.OfTwo.{two_lists, difference_as_many}
use Rattle.range_map_multi.proofs.borrowed_differences.borrowed_symmetric_difference.Goals as goal

pub returns-then-maps-eq2 : goal.returns-then-maps-eq2
returns-then-maps-eq2 g c =
    let shown = g.M.AsMap.shown in
    let left = c.as_borrowed.result.now.entries in
    let right = c.as_borrowed-then-maps-eq2.result.now.entries in
    let all = two_lists shown c.args.maps.now c.index-maps-0.result c.index-maps-1.result left right (omega (arith, c.if-maps-eq2.true)) c.index-maps-0.is c.index-maps-1.is
    (ap (λ m. m.entries) c.as_borrowed.ensures ∙ g.met.M.AsMap.are_shown c.index-maps-0.result) (ap (λ m. m.entries) c.as_borrowed-then-maps-eq2.ensures ∙ g.met.M.AsMap.are_shown c.index-maps-1.result) in
    IfOk-weaker c.bitxor.result _ _
    (λ new made. (difference_as_many g.V.PartialEq.eq g.met.V.Eq.laws g.T.Integer.low g.T.Integer.high left right new.entries (map shown c.args.maps.now) all made.0, made.1)) c.bitxor.ensures
