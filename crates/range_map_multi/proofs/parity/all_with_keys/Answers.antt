use Rattle.range_map_multi.proofs.Words.{◌≡◌, ◌∙◌, [], ◌∷◌, map, sym, ap, rules, nil_from_length, into_iter_items, in_places, taken_all}
use Rattle.range_map_multi.proofs.Many.{made_more}
use Rattle.range_map_multi.proofs.parity.all_with_keys.Goals as goal

pub loop-stream-preserved : goal.loop-stream-preserved
loop-stream-preserved g c =
    let left = g.I.SortedDisjointMap.left in
    let split : into_iter_items c.loop-stream.stream-iterator ≡ c.in-Some.stream ∷ into_iter_items c.next.new.self = search rules in (
      made_more left _ _ c.in-Some.stream _ _ _ _ c.in_ok-push.ensures.items c.in_ok-list.ensures.list split c.loop-stream.invariant.0,
      made_more (λ s. in_places 0 (left s)) _ _ c.in-Some.stream _ _ _ _ c.in_ok-push-2.ensures.items c.in_ok-list.ensures.keys split c.loop-stream.invariant.1,
    )

pub returns-clause-lists : goal.returns-clause-lists
returns-clause-lists g c =
    let none : into_iter_items c.loop-stream.stream-iterator ≡ [] = nil_from_length (into_iter_items c.loop-stream.stream-iterator) (sym c.loop-stream.stream-iterator.rest.ok.0 ∙ c.in-None.ensures.steps.0) in
    taken_all _ _ _ c.loop-stream.invariant.0 (ap (map g.I.SortedDisjointMap.left) none)

pub returns-clause-keys : goal.returns-clause-keys
returns-clause-keys g c =
    let none : into_iter_items c.loop-stream.stream-iterator ≡ [] = nil_from_length (into_iter_items c.loop-stream.stream-iterator) (sym c.loop-stream.stream-iterator.rest.ok.0 ∙ c.in-None.ensures.steps.0) in
    taken_all _ _ _ c.loop-stream.invariant.1 (ap (map (λ s. in_places 0 (g.I.SortedDisjointMap.left s))) none)
