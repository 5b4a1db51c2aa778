use Rattle.blaze_streams.proofs.Words.{Some, ap, map, sym, ◌∙◌, goes_first, shown_bare_range, unit_eq, IsRangeMap-rest, unit_laws}
use Rattle.blaze_streams.proofs.lists.canon.CanonIterIterator.next.Goals as goal

pub invariant_of-self-2 : goal.invariant_of-self-2
invariant_of-self-2 g c = IsRangeMap-rest unit_eq unit_laws _ _ _ _ (rw c.in_ok-next.ensures.items at c.self.invariant)

pub returns-clause-steps : goal.returns-clause-steps
returns-clause-steps g c =
    (rw (c.new.ensures.start, c.new.ensures.end, c.into_inner-start.ensures.start, c.into_inner-start.ensures.end) (sym c.self.view_is ∙ ap (map (shown_bare_range g.T.Integer.rank)) c.in_ok-next.ensures.items), c.new.ensures.exhausted)

pub returns-clause-goes : goal.returns-clause-goes
returns-clause-goes g c = goes_first _ (λ _. tt) (shown_bare_range g.T.Integer.rank) (Some c.new.result) _ _ (returns-clause-steps g c).0
