use Rattle.blaze_streams.proofs.Words.{rules}
use Rattle.blaze_streams.proofs.lists.violations.is_violation.Goals as goal

pub returns-then-is_next-clause-law : goal.returns-then-is_next-clause-law
returns-then-is_next-clause-law g c = search rules

pub returns-else-is_next-clause-law : goal.returns-else-is_next-clause-law
returns-else-is_next-clause-law g c = search rules
