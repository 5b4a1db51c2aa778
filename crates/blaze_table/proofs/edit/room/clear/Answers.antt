use Rattle.blaze_table.proofs.Words.{◌++◌, drop, pos, ◌+ℤ◌, length, ap, ◌∙◌, arith, ints, below, from}
use Rattle.blaze_entries.proofs.EditLists.{from_without}
use Rattle.blaze_table.proofs.Paints.Inner.{below_gone}
use Rattle.blaze_table.proofs.Walks.Worked.{worked_then}
use Rattle.blaze_table.proofs.edit.room.clear.Goals as goal

pub clear_above-requires : goal.clear_above-requires
clear_above-requires g c =
    let k = g.T.Integer.rank c.args.lo in
    let same = ap length (ap (from (k +ℤ pos 1)) c.remove_start.ensures.entries ∙ from_without (k +ℤ pos 1) k c.args.entries.now.entries (omega (arith, ints))) in
    omega (arith, same, c.requires.above)

pub returns-clause-entries : goal.returns-clause-entries
returns-clause-entries g c =
    let k = g.T.Integer.rank c.args.lo in
    let es = c.args.entries.now.entries in
    let out = c.remove_start.ensures.entries in
    c.clear_above.ensures.entries
    ∙ ap (λ x. x ++ drop c.args.count (from (k +ℤ pos 1) c.remove_start.new.entries.entries)) (ap (below (k +ℤ pos 1)) out ∙ below_gone k g.T.Integer.low g.T.Integer.high es c.in_hand.ensures)
    ∙ ap (λ x. below k es ++ drop c.args.count x) (ap (from (k +ℤ pos 1)) out ∙ from_without (k +ℤ pos 1) k es (omega (arith, ints)))

pub returns-clause-worked : goal.returns-clause-worked
returns-clause-worked g c = worked_then 0 0 0 c.args.entries.now c.remove_start.new.entries c.clear_above.new.entries c.remove_start.ensures.worked c.clear_above.ensures.worked
