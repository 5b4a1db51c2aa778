use Rattle.blaze_entries.proofs.Words.{refl, shown_entry}
use Rattle.blaze_entries.proofs.scan.next_found.Goals as goal

pub returns-in-Some-clause-found : goal.returns-in-Some-clause-found
returns-in-Some-clause-found g c = (
  shown_entry g.T.Integer.rank (λ v. v.now) c.in-Some.last,
  record { found = c.compared_entry.ensures; value = refl },
  c.in-Some.ensures.steps,
)
