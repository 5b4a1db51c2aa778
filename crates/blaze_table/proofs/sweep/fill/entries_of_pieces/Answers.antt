use Rattle.std.proofs.Common.{◌≡◌, [], ◌∷◌, ℕ, sym, subst, ◌∙◌, pos, ◌+ℤ◌}
use Rattle.std.proofs.lemmas.List.{nil_from_length}
use Rattle.std.specs.Vec.Iter.{into_iter_items}
use Rattle.blaze_entries.specs.Entries.{shown_entry, shown_list}
use Rattle.blaze_table.proofs.Sweeping.Filling.{IsFilledSoFar, filled_none, filled_more, filled_all, some_value}
use Rattle.blaze_table.proofs.sweep.fill.entries_of_pieces.Goals as goal

pub loop-start-init : goal.loop-start-init
loop-start-init g c =
    rw (c.into_iter-start-iterator.ensures.into_iter_gives.0, c.new-entries.ensures.items, c.in_ok-values.ensures)
    (filled_none g.V.PartialEq.eq g.met.V.Eq.laws g.T.Integer.rank g.T.Integer.low g.T.Integer.high c.args.placed.items c.requires.keys (g.T.Integer.high +ℤ pos 1) (shown_list g.T.Integer.rank c.args.pieces.items) c.requires.made)

pub put_piece-requires-clause-there : goal.put_piece-requires-clause-there
put_piece-requires-clause-there g c =
    let rank = g.T.Integer.rank in
    let eq = g.V.PartialEq.eq in
    let placed = c.args.placed.items in
    let b = g.T.Integer.high +ℤ pos 1 in
    let piece : g.row.T.Denot × g.row.T.Denot × ℕ = (c.in-Some.start, c.in-Some.end, c.in-Some.index) in
    let split : into_iter_items c.loop-start.start-iterator ≡ piece ∷ into_iter_items c.next.new.self = c.in-Some.ensures.steps.0 in
    some_value eq g.met.V.Eq.laws rank g.T.Integer.low g.T.Integer.high placed c.requires.keys b (shown_entry rank (λ v. v) piece) (shown_list rank (into_iter_items c.next.new.self)) (shown_list rank c.loop-start.entries.items) c.loop-start.values.items
    (subst (λ xs. IsFilledSoFar eq rank g.T.Integer.low g.T.Integer.high placed b (shown_list rank xs) (shown_list rank c.loop-start.entries.items) c.loop-start.values.items) split c.loop-start.invariant)

pub loop-start-preserved : goal.loop-start-preserved
loop-start-preserved g c =
    let rank = g.T.Integer.rank in
    let eq = g.V.PartialEq.eq in
    let placed = c.args.placed.items in
    let b = g.T.Integer.high +ℤ pos 1 in
    let piece : g.row.T.Denot × g.row.T.Denot × ℕ = (c.in-Some.start, c.in-Some.end, c.in-Some.index) in
    let split : into_iter_items c.loop-start.start-iterator ≡ piece ∷ into_iter_items c.next.new.self = c.in-Some.ensures.steps.0 in
    filled_more eq g.met.V.Eq.laws rank g.T.Integer.low g.T.Integer.high placed c.requires.keys b (shown_entry rank (λ v. v) piece) (shown_list rank (into_iter_items c.next.new.self)) (shown_list rank c.loop-start.entries.items) (shown_list rank c.put_piece.new.entries.items) c.loop-start.values.items c.put_piece.new.values.items
    c.in_hand.ensures.from c.in_hand-in-loop-start.ensures.to c.in_ok-put_piece.ensures
    (subst (λ xs. IsFilledSoFar eq rank g.T.Integer.low g.T.Integer.high placed b (shown_list rank xs) (shown_list rank c.loop-start.entries.items) c.loop-start.values.items) split c.loop-start.invariant)

pub returns : goal.returns
returns g c =
    let rank = g.T.Integer.rank in
    let eq = g.V.PartialEq.eq in
    let placed = c.args.placed.items in
    let b = g.T.Integer.high +ℤ pos 1 in
    let none : into_iter_items c.loop-start.start-iterator ≡ [] = nil_from_length (into_iter_items c.loop-start.start-iterator) (sym c.loop-start.start-iterator.rest.ok.0 ∙ c.in-None.ensures.steps.0) in
    filled_all eq g.met.V.Eq.laws rank g.T.Integer.low g.T.Integer.high placed c.requires.keys b (shown_list rank c.loop-start.entries.items) c.loop-start.values.items (λ _. b)
    (subst (λ xs. IsFilledSoFar eq rank g.T.Integer.low g.T.Integer.high placed b (shown_list rank xs) (shown_list rank c.loop-start.entries.items) c.loop-start.values.items) none c.loop-start.invariant)
