use Rattle.blaze_table.proofs.Words.{rules}
use Rattle.blaze_table.proofs.table.fill.gap.gap_below.Goals as goal

pub returns-clause-end : goal.returns-clause-end
returns-clause-end g c = search rules
