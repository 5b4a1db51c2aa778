use Rattle.blaze_entries.proofs.Words.{ap, subst, ◌∙◌, refl, AnswersAt, entry}
use Rattle.blaze_entries.proofs.Asked.{answers_at}
use Rattle.blaze_entries.proofs.tree.retain.OnEntryKeepsStartEndValueOption.keeps.Goals as goal

pub returns : goal.returns
returns g c =
    let rank = g.T.Integer.rank in
    let e = entry (rank c.args.key.now) (rank c.args.value.now.end) c.in-Some.stored in
    record {
      value = c.in-Some.stored;
      full = c.in-Some.is;
      answers =
          subst (λ f. AnswersAt rank g.F.FnMut f e c.call_mut.result c.call_mut.new.self) c.self.view_is
          (answers_at c.call_mut.ensures
          (record {
            starts = ap rank (c.new.ensures.start ∙ c.key.view_is);
            ends = ap rank c.new.ensures.end;
            whole = c.new.ensures.exhausted;
            stored = refl;
          }));
      stays = refl;
    }
