use Rattle.std.proofs.Common.{rules, ◌≡◌, ◌∙◌, arith, w64, to_z, of_z}
use Rattle.std.proofs.lemmas.Int.{ints}
use Rattle.range_map_c.specs.Combined.{combined}
use Rattle.range_map_c.specs.Handle.{least_key, greatest_key}
use Rattle.range_map_c.proofs.Combining.{done_combined, leaves_keeps, refused_combined}
use Rattle.range_map_c.proofs.handle.combine.combine.Goals as goal

pub returns-clause-ok : goal.returns-clause-ok
returns-clause-ok c =
    let lo : to_z w64 (of_z w64 c.args.lo) ≡ c.args.lo = omega (arith, ints) in
    let hi : to_z w64 (of_z w64 c.args.hi) ≡ c.args.hi = omega (arith, ints) in
    done_combined _ _ (combined c.args.op c.args.place c.args.value) _ (λ a w f' k. search rules) least_key greatest_key c.args.lo c.args.hi _ _ (c.new.ensures.start ∙ lo) (c.new.ensures.end ∙ hi)
    c.args.map.now.entries c.ranges_update.new.self.entries c.ranges_update.result (c.ranges_update.ensures.ok c.new.ensures.exhausted)

pub returns-clause-err : goal.returns-clause-err
returns-clause-err c =
    let lo : to_z w64 (of_z w64 c.args.lo) ≡ c.args.lo = omega (arith, ints) in
    let hi : to_z w64 (of_z w64 c.args.hi) ≡ c.args.hi = omega (arith, ints) in
    refused_combined _ _ (combined c.args.op c.args.place c.args.value) _ (λ a w f' k. search rules) least_key greatest_key c.args.lo c.args.hi _ _ (c.new.ensures.start ∙ lo) (c.new.ensures.end ∙ hi)
    c.args.map.now.entries c.ranges_update.new.self.entries c.in_hand.ensures c.ranges_update.result (c.ranges_update.ensures.err c.new.ensures.exhausted)

pub returns-clause-steady : goal.returns-clause-steady
returns-clause-steady c = λ leaves.
    let lo : to_z w64 (of_z w64 c.args.lo) ≡ c.args.lo = omega (arith, ints) in
    let hi : to_z w64 (of_z w64 c.args.hi) ≡ c.args.hi = omega (arith, ints) in
    c.ranges_update.ensures.steady c.new.ensures.exhausted
    (leaves_keeps _ _ (combined c.args.op c.args.place c.args.value) _ (λ a w f' k. search rules) c.args.lo c.args.hi _ _ (c.new.ensures.start ∙ lo) (c.new.ensures.end ∙ hi) c.args.map.now.entries leaves)
