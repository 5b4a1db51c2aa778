use Rattle.blaze_streams.proofs.Words.{List, [], ◌∷◌, map, sym, ap, ◌∙◌, goes_first, into_iter_items, Event, AscendInTime, shown_event}
use Rattle.blaze_streams.proofs.events.multiway_sweep.MultiwaySweepIterator.next.Goals.{in-Start, in-End}
use Rattle.blaze_streams.proofs.events.multiway_sweep.MultiwaySweepIterator.next.Goals as goal

-- the events after the first ascend
rest_ascends : {V : Type 0} (e : Event V) (es : List (Event V)) → AscendInTime (e ∷ es) → AscendInTime es
rest_ascends e [] a = tt
rest_ascends e (f ∷ fs) a = a.1

pub invariant_of-self : goal.invariant_of-self
invariant_of-self g c = rw c.in_err-range.ensures.items at c.self.invariant

pub invariant_of-self-2 : goal.invariant_of-self-2
invariant_of-self-2 g c =
    let show = shown_event g.T.Integer.rank g.VC.ValueCarrier.shown in
    rest_ascends (show c.in_ok-range.field-0) (map show (into_iter_items c.next.new.self)) (rw c.in_ok-range.ensures.items at c.self.invariant)

pub returns-clause-steps : goal.returns-clause-steps
returns-clause-steps g c =
    let show = shown_event g.T.Integer.rank g.VC.ValueCarrier.shown in
    let items = sym c.self.view_is ∙ ap (map show) c.in_ok-range.ensures.items in
    let rest = map show (into_iter_items c.next.new.self) in
    elim c.match-branch-2.branch [
      | in-Start w ↦ rw w.result-is (
        rw (w.new.ensures.start, w.new.ensures.end, w.into_inner-start.ensures.start, w.into_inner-start.ensures.end) (items ∙ ap (λ event. show event ∷ rest) w.in-Start.is),
        w.new.ensures.exhausted,
      )
      | in-End w ↦ rw w.result-is (items ∙ ap (λ event. show event ∷ rest) w.in-End.is, tt)
    ]

pub returns-clause-goes : goal.returns-clause-goes
returns-clause-goes g c = goes_first _ (λ _. tt) (shown_event g.T.Integer.rank g.VC.ValueCarrier.shown) c.match-branch-2.result _ _ (returns-clause-steps g c).0
