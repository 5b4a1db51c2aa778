use Rattle.blaze_streams.proofs.Words.{◌≡◌, ◌+◌, ◌++◌, length, map, All, into_iter_items, all_events, shown_events}
use Rattle.blaze_streams.proofs.Sweeps.{HasKey}
use Rattle.blaze_streams.proofs.events.sweep.sweep_of.Given as goal

abbrev pub invariant-loop-stream : goal.invariant-loop-stream
invariant-loop-stream g l =
    let shown = shown_events g.T.Integer.rank g.VC.ValueCarrier.shown in
    let left = map g.I.SortedDisjointMap.left in
    record {
      count : l.input + length (into_iter_items l.stream-iterator) ≡ length l.fn.streams.items;
      made : shown l.events.items ++ all_events l.input (left (into_iter_items l.stream-iterator)) ≡ all_events 0 (left l.fn.streams.items);
      keys : All (HasKey g.T.Integer.low g.T.Integer.high) (shown l.events.items);
    }
