use Rattle.blaze_table.proofs.Words.{step_up, step_to, step_past, weaker}
use Rattle.std.proofs.Common.{◌≡◌, ◌≤ℤ◌, ◌<ℤ◌, ◌+ℤ◌, pos, ◌∙◌, refl, sym, subst, arith}
use Rattle.std.specs.Prelude.{◌∷◌, IfSome, IsPermutation, IsSome}
use Rattle.std.proofs.lemmas.Option.{slice_get_within}
use Rattle.std.specs.BinaryHeap.{heap_items}
use Rattle.std.proofs.lemmas.Int.{ints}
use Rattle.blaze_int.proofs.Comparisons.{le_holds, le_fails, lt_holds, lt_fails}
use Rattle.blaze_entries.specs.Entries.{shown_list}
use Rattle.blaze_table.specs.Pieces.{ArePieces}
use Rattle.blaze_table.proofs.Sweeping.Pieces.{pieces_to, pieces_rest}
use Rattle.blaze_table.proofs.Sweeping.Waitings.{top_pair, top_read, waiting_from, waiting_less}
use Rattle.blaze_table.proofs.sweep.pieces.sweep_to.Goals as goal

pub returns-then-is_at_most-clause-waits : goal.returns-then-is_at_most-clause-waits
returns-then-is_at_most-clause-waits g c =
    let rank = g.T.Integer.rank in
    let i = c.loop-top.invariant in
    waiting_from rank c.args.placed.now (rank c.loop-top.at) (rank c.args.to) _ i.waits (rank c.args.to +ℤ pos 1) (omega (arith, ints, i.order))

pub returns-then-is_at_most-clause-made : goal.returns-then-is_at_most-clause-made
returns-then-is_at_most-clause-made g c =
    let rank = g.T.Integer.rank in
    let i = c.loop-top.invariant in
    let at = rank c.loop-top.at in
    let to = rank c.args.to in
    let waits = heap_items c.loop-top.waiting in
    let placed = c.args.placed.now in
    let top = c.in-Some.ensures in
    let pair = c.index-placed-index.result in
    let is = top_read rank placed at to waits i.waits c.in-Some.top pair top.top c.index-placed-index.is in
    pieces_to rank placed g.T.Integer.low at to i.order waits i.waits (shown_list rank c.loop-top.pieces.items) i.made c.in-Some.top pair top.top top.greatest is
    to i.order (omega (arith, ints)) (le_holds _ _ (sym c.is_at_most.ensures ∙ c.if-is_at_most.true)) (shown_list rank c.push_entry.new.out.items) c.in_ok-push_entry.ensures.ok

pub loop-top-preserved-then-is_below : goal.loop-top-preserved-then-is_below
loop-top-preserved-then-is_below g c =
    let rank = g.T.Integer.rank in
    let i = c.loop-top.invariant in
    let at = rank c.loop-top.at in
    let to = rank c.args.to in
    let waits = heap_items c.loop-top.waiting in
    let placed = c.args.placed.now in
    let top = c.in-Some.ensures in
    let pair = c.index-placed-index.result in
    let is = top_read rank placed at to waits i.waits c.in-Some.top pair top.top c.index-placed-index.is in
    record {
      order = i.order;
      heap = c.drop_top.ensures.heap;
      waits = waiting_less rank placed at to waits i.waits c.in-Some.top pair (heap_items c.drop_top.new.waiting) is (lt_holds _ _ (sym c.is_below.ensures ∙ c.if-is_below.true)) (subst (λ o. IfSome o (λ t. IsPermutation waits (t ∷ heap_items c.drop_top.new.waiting))) top.top c.drop_top.ensures.permutation);
      made = i.made;
    }

pub loop-top-preserved : goal.loop-top-preserved
loop-top-preserved g c =
    let rank = g.T.Integer.rank in
    let i = c.loop-top.invariant in
    let at = rank c.loop-top.at in
    let to = rank c.args.to in
    let waits = heap_items c.loop-top.waiting in
    let placed = c.args.placed.now in
    let top = c.in-Some.ensures in
    let pair = c.index-placed-index.result in
    let is = top_read rank placed at to waits i.waits c.in-Some.top pair top.top c.index-placed-index.is in
    let next = rank c.add_one-at.result in
    let e = rank pair.end in
    let h : at ≤ℤ e = lt_fails _ _ (sym c.is_below.ensures ∙ c.if-is_below.false) in
    let u : e <ℤ to = le_fails _ _ (sym c.is_at_most.ensures ∙ c.if-is_at_most.false) in
    let step : next ≡ e +ℤ pos 1 = c.add_one-at.ensures in
    let l : at ≤ℤ next = step_up at e next h step in
    record {
      order = step_to e to next u step;
      heap = c.drop_top.ensures.heap;
      waits = waiting_less rank placed next to waits (waiting_from rank placed at to waits i.waits next l) c.in-Some.top pair (heap_items c.drop_top.new.waiting) is (step_past e next step) (subst (λ o. IfSome o (λ t. IsPermutation waits (t ∷ heap_items c.drop_top.new.waiting))) top.top c.drop_top.ensures.permutation);
      made = subst (λ k. ArePieces rank placed g.T.Integer.low k (shown_list rank c.push_entry-in-Some.new.out.items)) (sym step)
          (pieces_to rank placed g.T.Integer.low at to i.order waits i.waits (shown_list rank c.loop-top.pieces.items) i.made c.in-Some.top pair top.top top.greatest is
          e h (weaker e to u) (omega (arith, ints)) (shown_list rank c.push_entry-in-Some.new.out.items) c.in_ok-push_entry-2.ensures.ok);
    }

pub returns-clause-waits : goal.returns-clause-waits
returns-clause-waits g c =
    let rank = g.T.Integer.rank in
    let i = c.loop-top.invariant in
    waiting_from rank c.args.placed.now (rank c.loop-top.at) (rank c.args.to) _ i.waits (rank c.args.to +ℤ pos 1) (omega (arith, ints, i.order))

pub returns-clause-made : goal.returns-clause-made
returns-clause-made g c =
    let rank = g.T.Integer.rank in
    let i = c.loop-top.invariant in
    pieces_rest rank c.args.placed.now g.T.Integer.low (rank c.loop-top.at) (rank c.args.to) i.order (heap_items c.loop-top.waiting) i.waits (shown_list rank c.loop-top.pieces.items) i.made c.in_default.ensures.none

pub loop-top-init : goal.loop-top-init
loop-top-init g c = record { order = c.requires.order; heap = c.requires.heap; waits = c.requires.waits; made = c.requires.made }

pub offset_bounds-placed-index : goal.offset_bounds-placed-index
offset_bounds-placed-index g c =
    let begun = top_pair g.T.Integer.rank c.args.placed.now (g.T.Integer.rank c.loop-top.at) (g.T.Integer.rank c.args.to) (heap_items c.loop-top.waiting) c.loop-top.invariant.waits c.in-Some.top c.in-Some.ensures.top in
    let within = slice_get_within c.args.placed.now c.in-Some.top.1 begun.pair begun.is in
    omega (arith, within)

pub bounds-placed-index : goal.bounds-placed-index
bounds-placed-index g c =
    let begun = top_pair g.T.Integer.rank c.args.placed.now (g.T.Integer.rank c.loop-top.at) (g.T.Integer.rank c.args.to) (heap_items c.loop-top.waiting) c.loop-top.invariant.waits c.in-Some.top c.in-Some.ensures.top in
    let within = slice_get_within c.args.placed.now c.in-Some.top.1 begun.pair begun.is in
    within

pub drop_top-requires-clause-some : goal.drop_top-requires-clause-some
drop_top-requires-clause-some g c = subst IsSome (sym c.in-Some.ensures.top) refl

pub loop-top-smaller-then-is_below : goal.loop-top-smaller-then-is_below
loop-top-smaller-then-is_below g c = omega (arith, c.drop_top.ensures.len)

pub add_one-at-requires : goal.add_one-at-requires
add_one-at-requires g c = record {
  below =
      let u = le_fails (g.T.Integer.rank c.args.to) (g.T.Integer.rank c.index-placed-index.result.end) (sym c.is_at_most.ensures ∙ c.if-is_at_most.false) in
      omega (arith, ints, u, c.in_hand.ensures.to);
}

pub loop-top-smaller : goal.loop-top-smaller
loop-top-smaller g c = omega (arith, c.drop_top.ensures.len)
