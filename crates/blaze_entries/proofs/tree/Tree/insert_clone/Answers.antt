use Rattle.blaze_entries.proofs.Words.{sym, shown_entry}
use Rattle.blaze_entries.proofs.tree.Tree.insert_clone.Goals as goal

pub returns-clause-ok : goal.returns-clause-ok
returns-clause-ok g c = record {
  of = shown_entry g.T.Integer.rank (λ v. v.now) c.in-Some.found;
  found = sym c.in-Some.ensures;
  value = c.in_ok-copy-in-Some.copy;
  clone = c.in_ok-copy-in-Some.ensures.cases;
  inserted = c.in_ok-insert-in-Some.ensures.ok;
}
