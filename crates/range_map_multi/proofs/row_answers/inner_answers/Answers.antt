use Rattle.range_map_multi.proofs.Words.{◌∙◌, map, sym, ap, subst, IfOk, is_some, list_all, shown_full_row, IsCallableAtRows, IsManyJoined, all_valued}
use Rattle.range_map_multi.proofs.Pickings.{none_from_empty, valued_none}
use Rattle.range_map_multi.proofs.row_answers.inner_answers.Goals as goal

pub inner_answers_of_none-requires : goal.inner_answers_of_none-requires
inner_answers_of_none-requires g c =
    let values = map (λ v. map g.S.Shows.shown v.items) c.args.lists.now in
    record {
      callable = subst (IsCallableAtRows (λ a. shown_full_row g.S.Shows.shown a.0.now) g.F.FnMut g.S.Value.PartialEq.eq g.T.Integer.low g.T.Integer.high (list_all is_some) c.args.f)
          (ap (all_valued values) (none_from_empty c.args.cursors.now c.is_empty.result c.is_empty.ensures c.if-is_empty.true) ∙ valued_none values) c.requires.callable;
    }

pub returns-then-is_empty : goal.returns-then-is_empty
returns-then-is_empty g c =
    let values = map (λ v. map g.S.Shows.shown v.items) c.args.lists.now in
    subst (λ Ls. IfOk c.inner_answers_of_none.result (IsManyJoined (λ a. shown_full_row g.S.Shows.shown a.0.now) g.F.FnMut g.S.Value.PartialEq.eq g.T.Integer.low g.T.Integer.high (list_all is_some) g.W.PartialEq.eq c.args.f Ls))
    (sym (ap (all_valued values) (none_from_empty c.args.cursors.now c.is_empty.result c.is_empty.ensures c.if-is_empty.true) ∙ valued_none values)) c.inner_answers_of_none.ensures
