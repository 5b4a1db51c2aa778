use Rattle.range_map_multi.proofs.Words.{map, IfOk-weaker}
use Rattle.range_map_multi.proofs.Differences.{difference_with}
use Rattle.range_map_multi.proofs.borrowed_differences.difference_with.Goals as goal

pub returns : goal.returns
returns g c =
    IfOk-weaker c.bitxor.result _ _
    (λ new made. (difference_with g.V.PartialEq.eq g.met.V.Eq.laws g.T.Integer.low g.T.Integer.high (map g.M.AsMap.shown c.args.behind.now) c.args.first.entries c.in_ok-union.union.entries c.in_ok-last.last.entries c.in_ok-replaced.replaced.entries c.in_ok-odd.odd.entries new.entries c.in_ok-union.ensures.0 c.in_ok-last.ensures.0 c.in_ok-replaced.ensures.0 c.in_ok-odd.ensures.0 made.0, made.1)) c.bitxor.ensures
