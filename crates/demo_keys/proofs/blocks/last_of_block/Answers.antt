use Rattle.std.proofs.Common.{◌+◌, arith}
use Rattle.demo_keys.proofs.Powers.{last_below}
use Rattle.demo_keys.proofs.blocks.last_of_block.Goals as goal

pub overflow_add-result : goal.overflow_add-result
overflow_add-result c =
    omega (arith, last_below c.args.start c.args.free 128 (c.args.start + c.mask.result) c.requires.bits c.requires.begins c.ranges.start.fits (omega (arith, c.mask.ensures)))
