use Rattle.blaze_table.proofs.Words.{rules}
use Rattle.blaze_table.proofs.splice.is_inside.Goals as goal

pub returns-then-found : goal.returns-then-found
returns-then-found g c = search rules
