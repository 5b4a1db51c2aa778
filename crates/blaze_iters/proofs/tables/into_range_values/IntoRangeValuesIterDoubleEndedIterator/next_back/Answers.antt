use Rattle.blaze_iters.proofs.Words.{Some, ap, map, subst, sym, ◌∙◌, map-append, rc_value, goes_last, shown_range, IsRangeMap, shown_entry, IsRangeMap-front}
use Rattle.blaze_iters.proofs.tables.into_range_values.IntoRangeValuesIterDoubleEndedIterator.next_back.Goals as goal

pub invariant_of-self-2 : goal.invariant_of-self-2
invariant_of-self-2 g c =
    let eq = g.V.PartialEq.eq in
    let show = shown_entry g.T.Integer.rank rc_value in
    IsRangeMap-front eq g.met.V.Eq.laws _ _ _ _ (subst (IsRangeMap eq g.T.Integer.low g.T.Integer.high) (ap (map show) c.in_ok-start.ensures.steps ∙ map-append show _ _) c.self.invariant)

pub returns-clause-steps : goal.returns-clause-steps
returns-clause-steps g c =
    let show = shown_entry g.T.Integer.rank rc_value in
    (rw (c.new.ensures.start, c.new.ensures.end) (sym c.self.view_is ∙ ap (map show) c.in_ok-start.ensures.steps ∙ map-append show _ _), c.new.ensures.exhausted)

pub returns-clause-goes : goal.returns-clause-goes
returns-clause-goes g c = goes_last _ (λ _. tt) (shown_range g.T.Integer.rank rc_value) (Some (c.new.result, c.in_ok-start.value)) _ _ (returns-clause-steps g c).0
