use Rattle.blaze_table.proofs.Words.{ap, ◌∙◌, ◌∷◌, [], entry, shown_list, glue}
use Rattle.blaze_table.proofs.table.retain.put_key.Goals as goal

pub returns-in_ok-push_entry : goal.returns-in_ok-push_entry
returns-in_ok-push_entry g c =
    let rank = g.T.Integer.rank in
    let kept = rw c.if-not-lengthen_entry.true at c.lengthen_entry.ensures in
    record {
      value = c.in_ok-value.value;
      like = c.requires _ _ c.in_ok-value.ensures.cases;
      glued = c.in_ok-push_entry.ensures.ok ∙ ap (λ items. glue g.V.PartialEq.eq (shown_list rank items) (entry (rank c.args.key) (rank c.args.key) c.in_ok-value.value ∷ [])) kept.0;
    }

pub returns-else-not-lengthen_entry : goal.returns-else-not-lengthen_entry
returns-else-not-lengthen_entry g c = record {
  value = c.args.value.now;
  like = g.met.V.Eq.laws.refl c.args.value.now;
  glued = rw c.if-not-lengthen_entry.false at c.lengthen_entry.ensures;
}
