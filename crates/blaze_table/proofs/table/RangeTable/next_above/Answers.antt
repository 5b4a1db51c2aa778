use Rattle.blaze_table.proofs.Words.{arith, sym, ap, option_map, ◌∙◌, find, int_lt, ints, first_from, CountedEntries, shown_entry}
use Rattle.blaze_table.proofs.Neighbours.NextEntries.{above_is, above_none}
use Rattle.blaze_table.proofs.table.RangeTable.next_above.Goals as goal

pub returns-in_err-checked_add_one : goal.returns-in_err-checked_add_one
returns-in_err-checked_add_one g c =
    let rank = g.T.Integer.rank in
    ap (option_map (shown_entry rank (λ v. v.now))) c.from_residual.ensures
    ∙ sym (above_none (rank c.args.key) g.T.Integer.low g.T.Integer.high _ (omega (arith, ints, c.in_err-checked_add_one.ensures)) c.in_hand.ensures)
    ∙ ap (λ (s : CountedEntries g.row.V.Denot). find (λ e. int_lt (rank c.args.key) e.lo) s.entries) c.self.view_is

pub returns : goal.returns
returns g c =
    let rank = g.T.Integer.rank in
    let es = c.self.inside.entries.counted.entries in
    c.at_or_above.ensures
    ∙ ap (λ k. first_from k es) c.in_ok-checked_add_one.ensures.0
    ∙ above_is (rank c.args.key) es
    ∙ ap (λ (s : CountedEntries g.row.V.Denot). find (λ e. int_lt (rank c.args.key) e.lo) s.entries) c.self.view_is
