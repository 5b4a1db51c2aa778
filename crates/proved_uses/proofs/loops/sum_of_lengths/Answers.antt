use Rattle.std.proofs.Common.{arith}
use Rattle.proved_uses.proofs.Sums.{sum_within}
use Rattle.proved_uses.proofs.loops.sum_of_lengths.Goals as goal

-- the sum and the next length are at most the number of keys, which fits
pub overflow_add-sum-in-loop-range : goal.overflow_add-sum-in-loop-range
overflow_add-sum-in-loop-range c =
    let i = c.loop-range.invariant in
    let within = sum_within _ _ _ _ _ _ _ c.args.map.now.entries c.in-Some.ensures.steps.0 i.0 i.1 c.len-total.ensures.lengths in
    omega (arith, within, c.from.ensures, c.into_inner-start.ensures.start, c.into_inner-start.ensures.end, c.len-total.type_inv)
