use Rattle.std.proofs.Common.{◌≡◌, ◌+◌, ◌-◌, ◌/◌, ℤ, pos, ◌≤ℤ◌, ◌<ℤ◌, slice_index_or, arith, w64, to_z, of_z, subst}
use Rattle.std.proofs.lemmas.Int.{ints}
use Rattle.range_map_c.specs.Ordered.{IsRank}
use Rattle.range_map_c.proofs.table_search.rank.Goals as goal

pub loop-low-preserved-then-lo-mid : goal.loop-low-preserved-then-lo-mid
loop-low-preserved-then-lo-mid c =
    let there : slice_index_or c.args.lo.now (c.loop-low.low + (c.loop-low.high - c.loop-low.low) / 2) (pos 0) ≤ℤ to_z w64 (of_z w64 c.args.key) = grind (arith, ints) in
    (omega arith, omega arith, (λ j p. let a = c.requires j (c.loop-low.low + (c.loop-low.high - c.loop-low.low) / 2) (omega arith) (omega arith) in omega (arith, ints)), c.loop-low.invariant.3)

pub loop-low-preserved : goal.loop-low-preserved
loop-low-preserved c =
    let there : to_z w64 (of_z w64 c.args.key) <ℤ slice_index_or c.args.lo.now (c.loop-low.low + (c.loop-low.high - c.loop-low.low) / 2) (pos 0) = grind (arith, ints) in
    (omega arith, omega arith, c.loop-low.invariant.2, λ j p q. let a = c.requires (c.loop-low.low + (c.loop-low.high - c.loop-low.low) / 2) j p q in omega (arith, ints))

pub returns : goal.returns
returns c =
    let key : to_z w64 (of_z w64 c.args.key) ≡ c.args.key = omega (arith, ints) in
    subst (λ (k : ℤ). IsRank c.args.lo.now k c.loop-low.low) key
    (record { within = omega arith; before = c.loop-low.invariant.2; after = λ j p q. c.loop-low.invariant.3 j (omega arith) q })
