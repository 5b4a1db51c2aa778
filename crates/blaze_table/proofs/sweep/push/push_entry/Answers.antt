use Rattle.blaze_table.proofs.Words.{arith, common_steps}
use Rattle.blaze_table.proofs.sweep.push.push_entry.Goals as goal

pub returns-in_ok-push-clause-ok : goal.returns-in_ok-push-clause-ok
returns-in_ok-push-clause-ok g c = grind (arith, common_steps)
