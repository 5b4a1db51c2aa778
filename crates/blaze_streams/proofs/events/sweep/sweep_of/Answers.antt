use Rattle.blaze_streams.proofs.Words.{◌≡◌, ◌++◌, [], ◌∷◌, sym, ap, ◌∙◌, length, map, arith, rules, nil_from_length, answers_always, into_iter_items, all_events, shown_events, instant}
use Rattle.blaze_streams.proofs.Sweeps.{all_more, keys_more, swept}
use Rattle.blaze_streams.proofs.events.sweep.sweep_of.Goals as goal

pub loop-stream-preserved : goal.loop-stream-preserved
loop-stream-preserved g c =
    let shown = shown_events g.T.Integer.rank g.VC.ValueCarrier.shown in
    let left = g.I.SortedDisjointMap.left in
    let i = c.loop-stream.invariant in
    let old = shown c.loop-stream.events.items in
    let new = shown c.put_events.new.events.items in
    let rest = into_iter_items c.next.new.self in
    let split : into_iter_items c.loop-stream.stream-iterator ≡ c.in-Some.stream ∷ rest = search rules in
    record {
      count = omega (arith, ap length split, i.count);
      made = all_more c.loop-stream.input old new (left c.in-Some.stream) (map left rest) _ c.in_ok-put_events.ensures.put (ap (λ xs. old ++ all_events c.loop-stream.input (map left xs)) (sym split) ∙ i.made);
      keys = keys_more g.VC.Value.PartialEq.eq _ _ c.loop-stream.input old new (left c.in-Some.stream) c.put_events.ensures.range_map c.in_ok-put_events.ensures.put i.keys;
    }

pub new-requires : goal.new-requires
new-requires g c =
    let left = map g.I.SortedDisjointMap.left in
    let rest = into_iter_items c.loop-stream.stream-iterator in
    let i = c.loop-stream.invariant in
    let sort = c.in_ok-sort_by_key.ensures in
    let none : rest ≡ [] = nil_from_length rest (sym c.loop-stream.stream-iterator.rest.ok.0 ∙ c.in-None.ensures.steps.0) in
    record {
      ascend = (swept g.T.Integer.rank g.VC.ValueCarrier.shown _ _ g.T.Ord.cmp g.met.T.Integer.ranked.order (left c.args.streams.items) (left rest) c.loop-stream.input c.loop-stream.events.items c.sort_by_key.new.self.items
          i.made (ap left none) i.keys sort.permutation (sort.sorted instant (answers_always _ _ _ (λ f a r h k. search rules)))).ascending;
    }

pub returns : goal.returns
returns g c =
    let left = map g.I.SortedDisjointMap.left in
    let rest = into_iter_items c.loop-stream.stream-iterator in
    let i = c.loop-stream.invariant in
    let sort = c.in_ok-sort_by_key.ensures in
    let none : rest ≡ [] = nil_from_length rest (sym c.loop-stream.stream-iterator.rest.ok.0 ∙ c.in-None.ensures.steps.0) in
    rw c.new.ensures
    (swept g.T.Integer.rank g.VC.ValueCarrier.shown _ _ g.T.Ord.cmp g.met.T.Integer.ranked.order (left c.args.streams.items) (left rest) c.loop-stream.input c.loop-stream.events.items c.sort_by_key.new.self.items
    i.made (ap left none) i.keys sort.permutation (sort.sorted instant (answers_always _ _ _ (λ f a r h k. search rules))))
