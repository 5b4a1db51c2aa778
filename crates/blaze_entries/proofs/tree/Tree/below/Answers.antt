use Rattle.blaze_entries.proofs.Words.{◌∙◌, ap, None, last_or, shown_entry}
use Rattle.blaze_entries.proofs.Edits.{last_yielded}
use Rattle.blaze_entries.proofs.tree.Tree.below.Goals as goal

pub returns : goal.returns
returns g c = last_yielded (shown_entry g.T.Integer.rank (λ v. v.now)) _ _ c.next_back.result c.next_back.ensures.steps ∙ ap (last_or None) c.iter_below.ensures
