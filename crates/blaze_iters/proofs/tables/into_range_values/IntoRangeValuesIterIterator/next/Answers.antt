use Rattle.blaze_iters.proofs.Words.{Some, ap, map, sym, ◌∙◌, rc_value, goes_first, shown_range, shown_entry, IsRangeMap-rest}
use Rattle.blaze_iters.proofs.tables.into_range_values.IntoRangeValuesIterIterator.next.Goals as goal

pub invariant_of-self-2 : goal.invariant_of-self-2
invariant_of-self-2 g c = IsRangeMap-rest g.V.PartialEq.eq g.met.V.Eq.laws _ _ _ _ (rw c.in_ok-start.ensures.items at c.self.invariant)

pub returns-clause-steps : goal.returns-clause-steps
returns-clause-steps g c =
    (rw (c.new.ensures.start, c.new.ensures.end) (sym c.self.view_is ∙ ap (map (shown_entry g.T.Integer.rank rc_value)) c.in_ok-start.ensures.items), c.new.ensures.exhausted)

pub returns-clause-goes : goal.returns-clause-goes
returns-clause-goes g c = goes_first _ (λ _. tt) (shown_range g.T.Integer.rank rc_value) (Some (c.new.result, c.in_ok-start.value)) _ _ (returns-clause-steps g c).0
