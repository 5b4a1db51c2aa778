use Rattle.blaze_int.proofs.Comparisons.{not_both}
use Rattle.demo_keys.proofs.Powers.{greatest, greatest_of_all}
use Rattle.demo_keys.proofs.blocks.greatest_block.Goals as goal

pub returns-else-is_block_within-clause-greatest : goal.returns-else-is_block_within-clause-greatest
returns-else-is_block_within-clause-greatest c = greatest c.args.first c.args.last c.loop-free.free
    (λ wider. not_both c.is_block_within.result (c.is_block_within.ensures.1 wider) c.if-is_block_within.false)

pub returns-after-loop-free-clause-greatest : goal.returns-after-loop-free-clause-greatest
returns-after-loop-free-clause-greatest c =
    greatest_of_all c.args.first c.args.last c.loop-free.free c.ranges.last.fits c.loop-free-test.false c.loop-free.invariant.0
