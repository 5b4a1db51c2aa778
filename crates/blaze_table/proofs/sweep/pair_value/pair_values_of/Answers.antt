use Rattle.std.proofs.lemmas.Grind.{common_steps}
use Rattle.std.proofs.Common.{arith}
use Rattle.std.proofs.Common.{◌++◌, map, ◌∙◌, sym, ap, append_assoc}
use Rattle.std.specs.Vec.Iter.{into_iter_items}
use Rattle.blaze_table.specs.PairValue.{unmoved_value}
use Rattle.blaze_table.proofs.sweep.pair_value.pair_values_of.Goals as goal

pub loop-pair-init : goal.loop-pair-init
loop-pair-init g c =
    ap (λ xs. xs ++ map unmoved_value (into_iter_items c.into_iter-pair-iterator.result)) c.new-values.ensures.items
    ∙ ap (map unmoved_value) c.into_iter-pair-iterator.ensures.into_iter_gives.0

pub loop-pair-smaller : goal.loop-pair-smaller
loop-pair-smaller g c = (c.in-Some.ensures.goes.on c.loop-pair.iterator.1).2

pub loop-pair-preserved : goal.loop-pair-preserved
loop-pair-preserved g c =
    let values = c.loop-pair.values.items in
    ap (λ xs. xs ++ map unmoved_value (into_iter_items c.next.new.self)) c.in_ok-push.ensures.items
    ∙ append_assoc values _ _
    ∙ ap (λ ps. values ++ map unmoved_value ps) (sym c.in-Some.ensures.steps.0)
    ∙ c.loop-pair.invariant

pub returns : goal.returns
returns g c = grind (arith, common_steps)
