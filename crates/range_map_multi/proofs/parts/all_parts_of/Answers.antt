use Rattle.range_map_multi.proofs.Words.{◌≡◌, ◌∙◌, [], ◌∷◌, map, sym, ap, subst, rules, map-append, nil_from_length, into_iter_items}
use Rattle.range_map_multi.proofs.Placed.{AreTakenApart, apart_none, apart_more, apart_all}
use Rattle.range_map_multi.proofs.parts.all_parts_of.Goals as goal

pub loop-stream-init : goal.loop-stream-init
loop-stream-init g c =
    let all = map g.I.SortedDisjointMap.left c.args.streams.items in
    let is : c.args.streams.items ≡ into_iter_items c.into_iter-stream-iterator.result = search rules in
    rw (c.new-carriers.ensures.items, c.new-cursors.ensures.items)
    (subst (λ xs. AreTakenApart g.VC.Value.PartialEq.eq g.T.Integer.low g.T.Integer.high all (map g.I.SortedDisjointMap.left xs) [] []) is
    (apart_none g.VC.Value.PartialEq.eq g.T.Integer.low g.T.Integer.high all))

pub loop-stream-preserved : goal.loop-stream-preserved
loop-stream-preserved g c =
    let left = g.I.SortedDisjointMap.left in
    let shown = g.VC.ValueCarrier.shown in
    let split : into_iter_items c.loop-stream.stream-iterator ≡ c.in-Some.stream ∷ into_iter_items c.next.new.self = search rules in
    apart_more g.VC.Value.PartialEq.eq g.T.Integer.low g.T.Integer.high (map left c.args.streams.items) (map left (into_iter_items c.loop-stream.stream-iterator)) (map left (into_iter_items c.next.new.self)) (left c.in-Some.stream)
    _ _ (map shown c.in_ok-cursor.list.items) _ _ c.in_ok-cursor.cursor c.loop-stream.invariant
    (ap (map left) split) (ap (map (λ v. map shown v.items)) c.in_ok-push-2.ensures.items ∙ map-append (λ v. map shown v.items) c.loop-stream.carriers.items _) c.in_ok-push.ensures.items
    c.in_ok-cursor.ensures.placed c.in_ok-cursor.ensures.range_map

pub returns-clause-placed : goal.returns-clause-placed
returns-clause-placed g c =
    let none : into_iter_items c.loop-stream.stream-iterator ≡ [] = nil_from_length (into_iter_items c.loop-stream.stream-iterator) (sym c.loop-stream.stream-iterator.rest.ok.0 ∙ c.in-None.ensures.steps.0) in
    (apart_all g.VC.Value.PartialEq.eq g.T.Integer.low g.T.Integer.high _ _ _ _ c.loop-stream.invariant (ap (map g.I.SortedDisjointMap.left) none)).0

pub returns-clause-range_maps : goal.returns-clause-range_maps
returns-clause-range_maps g c =
    let none : into_iter_items c.loop-stream.stream-iterator ≡ [] = nil_from_length (into_iter_items c.loop-stream.stream-iterator) (sym c.loop-stream.stream-iterator.rest.ok.0 ∙ c.in-None.ensures.steps.0) in
    (apart_all g.VC.Value.PartialEq.eq g.T.Integer.low g.T.Integer.high _ _ _ _ c.loop-stream.invariant (ap (map g.I.SortedDisjointMap.left) none)).1
