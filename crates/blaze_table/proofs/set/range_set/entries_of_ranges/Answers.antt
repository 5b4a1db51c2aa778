use Rattle.blaze_table.proofs.Words.{common_steps, arith}
use Rattle.blaze_table.proofs.set.range_set.entries_of_ranges.Goals as goal

pub returns : goal.returns
returns g c = grind (arith, common_steps)

pub loop-range-preserved : goal.loop-range-preserved
loop-range-preserved g c = grind (arith, common_steps)
