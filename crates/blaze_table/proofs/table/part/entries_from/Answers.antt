use Rattle.blaze_table.proofs.Words.{◌≡◌, ◌≤◌, ◌-◌, length, ap, arith, sym, subst, List, CountedEntries, Entry, IsSplitOf}
use Rattle.blaze_table.proofs.Cuts.Parts.{below_short, counted_part}
use Rattle.blaze_table.proofs.table.part.entries_from.Goals as goal

pub overflow_sub-removed : goal.overflow_sub-removed
overflow_sub-removed g c =
    let short : length c.split_at.new.entries.counted.entries ≤ length c.args.entries.now.counted.entries = below_short g.V.PartialEq.eq _ _ _ _ c.in_ok-taken.ensures.split in
    omega (arith, c.len-old_count.ensures, c.len-count.ensures)

pub returns-clause-split : goal.returns-clause-split
returns-clause-split g c =
    subst (λ (es : List (Entry g.row.V.Denot)). IsSplitOf g.V.PartialEq.eq (g.T.Integer.rank c.args.key) c.args.entries.now.counted.entries es c.in_ok-taken.taken.counted.entries)
    (sym (ap (λ (s : CountedEntries g.row.V.Denot). s.entries) c.count_removed.ensures)) c.in_ok-taken.ensures.split

pub returns-clause-counted : goal.returns-clause-counted
returns-clause-counted g c =
    let short : length c.split_at.new.entries.counted.entries ≤ length c.args.entries.now.counted.entries = below_short g.V.PartialEq.eq _ _ _ _ c.in_ok-taken.ensures.split in
    counted_part c.args.entries.now.counted c.split_at.new.entries.counted c.count_removed.new.self (c.len-old_count.result - c.len-count.result) c.in_ok-taken.ensures.same.0
    (omega (arith, c.len-old_count.ensures, c.len-count.ensures)) c.count_removed.ensures
