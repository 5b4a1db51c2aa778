use Rattle.blaze_table.proofs.Words.{common_steps, arith}
use Rattle.blaze_table.proofs.equality.have_same_entries.Goals as goal

pub returns-then-entries : goal.returns-then-entries
returns-then-entries g c = grind (arith, common_steps)
