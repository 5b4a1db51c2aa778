use Rattle.range_map_blaze.proofs.Words.{sym, subst, IfOk-weaker, IsComplement, unit_eq}
use Rattle.range_map_blaze.proofs.Choices.{complement_of}
use Rattle.range_map_blaze.proofs.operators.complements.unmapped_keys.Goals as goal

pub returns : goal.returns
returns g c =
    let low = g.T.Integer.low in
    let high = g.T.Integer.high in
    let whole = complement_of unit_eq low high tt c.ranges-2.result c.args.map.now.entries c.in_ok-stream.stream c.ranges-2.ensures.same_keys c.in_ok-stream.ensures in
    IfOk-weaker c.set_of.result _ _ (λ set same. subst (IsComplement unit_eq low high tt c.args.map.now.entries) (sym same) whole) c.set_of.ensures
