use Rattle.std.proofs.Common.{◌≡◌, ◌≤ℤ◌, [], ◌∷◌, ◌∙◌, ap, sym, length, arith, rules}
use Rattle.std.proofs.lemmas.List.{length-map, nil_from_length}
use Rattle.std.proofs.lemmas.List.Elements.{All-weaker}
use Rattle.std.proofs.lemmas.List.Sorted.{answers_always}
use Rattle.std.specs.Vec.Iter.{into_iter_items}
use Rattle.blaze_int.proofs.Comparisons.{le_holds, le_fails}
use Rattle.blaze_entries.specs.Entries.{shown_entry, shown_list}
use Rattle.blaze_table.specs.Pieces.{IsPlacedPair}
use Rattle.blaze_table.proofs.Sweeping.Placed.{head_of_drop, placed_none, placed_skip, placed_more, placed_sorted, ends_are_keys, ascends}
use Rattle.blaze_table.proofs.sweep.placed.placed_of.Goals as goal

pub loop-start-init : goal.loop-start-init
loop-start-init g c =
    let rank = g.T.Integer.rank in
    rw (c.into_iter-start-iterator.ensures.into_iter_gives.0, c.new-placed.ensures.items)
    (record {
      in_all = omega arith;
      rest = λ _. shown_list rank c.args.pairs.items;
      so_far = placed_none rank (shown_list rank c.args.pairs.items);
    })

pub loop-start-preserved-then-not-is_at_most : goal.loop-start-preserved-then-not-is_at_most
loop-start-preserved-then-not-is_at_most g c =
    let rank = g.T.Integer.rank in
    let i = c.loop-start.invariant in
    let ps = shown_list rank c.args.pairs.items in
    let pair : g.row.T.Denot × g.row.T.Denot × g.row.V.Denot = (c.in-Some.start, c.in-Some.end, c.in-Some.value) in
    let e = shown_entry rank (λ v. v) pair in
    let rest = into_iter_items c.next.new.self in
    let split : into_iter_items c.loop-start.start-iterator ≡ pair ∷ rest = c.in-Some.ensures.steps.0 in
    let head = head_of_drop c.loop-start.count ps e (shown_list rank rest) (i.rest ∙ ap (shown_list rank) split) in
    record {
      in_all = omega (arith, ap length split, i.in_all);
      rest = head.1;
      so_far = placed_skip rank ps c.loop-start.count c.loop-start.placed.items i.so_far e head.0 (le_fails _ _ (sym c.is_at_most.ensures ∙ c.if-not-is_at_most.true));
    }

pub loop-start-preserved : goal.loop-start-preserved
loop-start-preserved g c =
    let rank = g.T.Integer.rank in
    let i = c.loop-start.invariant in
    let ps = shown_list rank c.args.pairs.items in
    let pair : g.row.T.Denot × g.row.T.Denot × g.row.V.Denot = (c.in-Some.start, c.in-Some.end, c.in-Some.value) in
    let e = shown_entry rank (λ v. v) pair in
    let rest = into_iter_items c.next.new.self in
    let split : into_iter_items c.loop-start.start-iterator ≡ pair ∷ rest = c.in-Some.ensures.steps.0 in
    let head = head_of_drop c.loop-start.count ps e (shown_list rank rest) (i.rest ∙ ap (shown_list rank) split) in
    record {
      in_all = omega (arith, ap length split, i.in_all);
      rest = head.1;
      so_far = placed_more rank ps c.loop-start.count c.loop-start.placed.items i.so_far e head.0
          pair.0 pair.1 pair.2 c.push.new.self.items c.in_ok-push.ensures.items (λ _. e) (le_holds _ _ (sym c.is_at_most.ensures ∙ c.if-not-is_at_most.false));
    }

pub returns : goal.returns
returns g c =
    let rank = g.T.Integer.rank in
    let i = c.loop-start.invariant in
    let ps = shown_list rank c.args.pairs.items in
    let new = c.sort_unstable_by_key.new.self.items in
    let sort = c.sort_unstable_by_key.ensures in
    let none : into_iter_items c.loop-start.start-iterator ≡ [] = nil_from_length (into_iter_items c.loop-start.start-iterator) (sym c.loop-start.start-iterator.rest.ok.0 ∙ c.in-None.ensures.steps.0) in
    let placed = placed_sorted rank ps c.loop-start.count c.loop-start.placed.items new i.so_far (omega (arith, i.in_all, ap length none, length-map c.args.pairs.items (shown_entry rank (λ v. v)))) sort.permutation in
    let keys = ends_are_keys rank ps g.T.Integer.low g.T.Integer.high new c.requires placed.known in
    record {
      placed = placed;
      ascending = ascends rank g.T.Integer.low g.T.Integer.high g.T.Ord.cmp g.met.T.Integer.ranked.order new keys
          (All-weaker (IsPlacedPair rank ps) (λ p. rank p.start ≤ℤ rank p.end) (λ p h. h.order) new placed.known)
          (sort.sorted (λ p. p.start) (answers_always _ _ _ (λ f a r h k. search rules)));
      keys = keys;
    }
