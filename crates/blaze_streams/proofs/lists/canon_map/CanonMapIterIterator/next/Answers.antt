use Rattle.blaze_streams.proofs.Words.{Some, ap, map, sym, ◌∙◌, goes_first, shown_range, IsRangeMap-rest}
use Rattle.blaze_streams.proofs.lists.canon_map.CanonMapIterIterator.next.Goals as goal

pub invariant_of-self-2 : goal.invariant_of-self-2
invariant_of-self-2 g c = IsRangeMap-rest g.VC.Value.PartialEq.eq g.met.VC.Value.Eq.laws _ _ _ _ (rw c.in_ok-range.ensures.items at c.self.invariant)

pub returns-clause-steps : goal.returns-clause-steps
returns-clause-steps g c =
    let show = shown_range g.T.Integer.rank g.VC.ValueCarrier.shown in
    (rw (c.new.ensures.start, c.new.ensures.end, c.into_inner-start.ensures.start, c.into_inner-start.ensures.end) (sym c.self.view_is ∙ ap (map show) c.in_ok-range.ensures.items), c.new.ensures.exhausted)

pub returns-clause-goes : goal.returns-clause-goes
returns-clause-goes g c = goes_first _ (λ _. tt) (shown_range g.T.Integer.rank g.VC.ValueCarrier.shown) (Some (c.new.result, c.in_ok-range.carrier)) _ _ (returns-clause-steps g c).0
