use Rattle.blaze_table.proofs.Words.{◌≡◌, ◌++◌, length, drop, pos, ◌+ℤ◌, ap, sym, ◌∙◌, arith, length-drop, drop-drop, below, from, halves}
use Rattle.blaze_table.proofs.Paints.Clearing.{not_last}
use Rattle.blaze_table.proofs.Walks.Worked.{worked_then}
use Rattle.blaze_table.proofs.edit.room.clear_above.Goals as goal

pub returns-then-count-eq0-clause-entries : goal.returns-then-count-eq0-clause-entries
returns-then-count-eq0-clause-entries g c =
    let k = g.T.Integer.rank c.args.key +ℤ pos 1 in
    let es = c.args.entries.now.entries in
    halves k g.T.Integer.low g.T.Integer.high es c.in_hand.ensures ∙ ap (λ n. below k es ++ drop n (from k es)) (sym c.if-count-eq0.true)

pub add_one-next-requires : goal.add_one-next-requires
add_one-next-requires g c = record {
  below = not_last (g.T.Integer.rank c.args.key) g.T.Integer.low g.T.Integer.high c.args.entries.now.entries c.in_hand.ensures (omega (arith, c.requires, c.if-count-eq0.false));
}

pub remove_next-requires : goal.remove_next-requires
remove_next-requires g c =
    let old = c.args.entries.now.entries in
    let predecessor = ap length c.loop-turn.invariant.from in
    let all = ap (λ k. length (from k old)) c.add_one-next.ensures in
    omega (arith, predecessor, all, length-drop c.loop-turn._turn (from (g.T.Integer.rank c.add_one-next.result) old), c.requires)

pub loop-turn-preserved : goal.loop-turn-preserved
loop-turn-preserved g c =
    let i = c.loop-turn.invariant in
    record {
      below = c.remove_next.ensures.below ∙ i.below;
      from = c.remove_next.ensures.from ∙ ap (drop 1) i.from ∙ drop-drop 1 c.loop-turn._turn (from (g.T.Integer.rank c.add_one-next.result) c.args.entries.now.entries);
      worked = worked_then 0 0 0 c.args.entries.now c.loop-turn.entries c.remove_next.new.entries i.worked c.remove_next.ensures.worked;
    }

pub returns-clause-entries : goal.returns-clause-entries
returns-clause-entries g c =
    let next = g.T.Integer.rank c.add_one-next.result in
    let old = c.args.entries.now.entries in
    let i = c.loop-turn.invariant in
    let all : c.loop-turn._turn ≡ c.args.count = omega arith in
    halves next g.T.Integer.low g.T.Integer.high c.loop-turn.entries.entries c.in_hand-2.ensures
    ∙ ap (λ x. x ++ from next c.loop-turn.entries.entries) i.below ∙ ap (λ x. below next old ++ x) i.from
    ∙ ap (λ n. below next old ++ drop n (from next old)) all ∙ ap (λ k. below k old ++ drop c.args.count (from k old)) c.add_one-next.ensures
