use Rattle.std.proofs.Common.{◌-◌, arith}
use Rattle.demo_keys.proofs.Powers.{last_below}
use Rattle.demo_keys.proofs.prefixes.prefix_range.Goals as goal

pub at-requires : goal.at-requires
at-requires g c = last_below c.number-number.result (c.width-2.result - c.args.bits) g.A.Address.width c.last_of_block.result
    (omega (arith, c.width-2.ensures.value)) (c.begins_block.ensures.0 c.if-begins_block.true) c.number-number.ensures.bound c.last_of_block.ensures
