use Rattle.blaze_streams.proofs.Words.{rules}
use Rattle.blaze_streams.proofs.cursor.Cursor.last.Goals as goal

pub returns-then-is_at_most : goal.returns-then-is_at_most
returns-then-is_at_most g c = search rules

pub returns-else-is_at_most : goal.returns-else-is_at_most
returns-else-is_at_most g c = search rules
