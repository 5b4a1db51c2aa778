use Rattle.blaze_streams.proofs.Words.{◌≡◌, ◌++◌, events_of, shown_events}
use Rattle.blaze_streams.proofs.events.sweep.put_events.Given as goal

-- the appended events and those of the remaining ranges are all events
abbrev pub invariant-loop-range : goal.invariant-loop-range
invariant-loop-range g l =
    let shown = shown_events g.T.Integer.rank g.VC.ValueCarrier.shown in
    shown l.events.items ++ events_of l.input (g.I.SortedDisjointMap.left l.range-iterator) ≡ shown l.initial.events.items ++ events_of l.input (g.I.SortedDisjointMap.left l.fn.stream)
