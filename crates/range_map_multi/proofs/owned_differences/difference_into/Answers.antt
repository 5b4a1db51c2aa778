use Rattle.range_map_multi.proofs.Words.{◌∙◌, IfOk-weaker}
use Rattle.range_map_multi.proofs.Around.{parted_at}
use Rattle.range_map_multi.proofs.Differences.{difference_around}
use Rattle.range_map_multi.proofs.owned_differences.difference_into.Goals as goal

pub returns : goal.returns
returns g c =
    let large = c.remove-large.result in
    let cut = c.in_ok-behind.ensures in
    let all = parted_at (λ m. m.entries) c.args.maps.items c.deref.result.now c.in_ok-behind.behind.items c.deref-2.result.now c.args.position large c.requires.there (c.deref.ensures.value ∙ cut.items) cut.tail c.remove-large.ensures.value (c.deref-2.ensures.value ∙ c.remove-large.ensures.by_index.2) in
    IfOk-weaker c.difference_with.result _ _
    (λ new made. (difference_around g.V.PartialEq.eq g.met.V.Eq.laws g.T.Integer.low g.T.Integer.high _ _ large.entries c.in_ok-before.before.entries c.in_ok-map.map.entries new.entries _ all c.in_ok-before.ensures.0 c.in_ok-map.ensures.0 made.0, made.1)) c.difference_with.ensures
