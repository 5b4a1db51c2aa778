use Rattle.blaze_table.proofs.Words.{◌≡◌, ◌∙◌, ◌≤◌, ◌-◌, length, ap, arith, sym, subst, List, CountedEntries, Entry, IsSplitOf, uncounted}
use Rattle.blaze_table.specs.Sides.{AreKeptFrom}
use Rattle.blaze_table.proofs.Cuts.Parts.{from_short, counted_part}
use Rattle.blaze_table.proofs.table.part.entries_below.Goals as goal

pub overflow_sub-removed : goal.overflow_sub-removed
overflow_sub-removed g c =
    let short : length c.in_ok-taken.taken.counted.entries ≤ length c.args.entries.now.counted.entries = from_short g.V.PartialEq.eq _ _ _ _ c.in_ok-taken.ensures.split g.met.V.Eq.laws in
    let long = ap (λ (s : CountedEntries g.row.V.Denot). length s.entries) c.exchange.ensures.here in
    omega (arith, c.len-old_count.ensures, c.len-count.ensures)

pub returns-clause-split : goal.returns-clause-split
returns-clause-split g c =
    let eq = g.V.PartialEq.eq in
    let k = g.T.Integer.rank c.args.key in
    let es = c.args.entries.now.counted.entries in
    subst (λ (xs : List (Entry g.row.V.Denot)). IsSplitOf eq k es xs c.count_removed.new.self.entries)
    (sym (ap (λ (s : CountedEntries g.row.V.Denot). s.entries) c.exchange.ensures.there))
    (subst (λ (xs : List (Entry g.row.V.Denot)). IsSplitOf eq k es c.split_at.new.entries.counted.entries xs)
    (sym (ap (λ (s : CountedEntries g.row.V.Denot). s.entries) c.count_removed.ensures ∙ ap (λ (s : CountedEntries g.row.V.Denot). s.entries) c.exchange.ensures.here)) c.in_ok-taken.ensures.split)

pub returns-clause-kept : goal.returns-clause-kept
returns-clause-kept g c =
    subst (λ (xs : List (Entry g.row.V.Denot)). AreKeptFrom (g.T.Integer.rank c.args.key) c.args.entries.now.counted.entries xs)
    (sym (ap (λ (s : CountedEntries g.row.V.Denot). s.entries) c.count_removed.ensures ∙ ap (λ (s : CountedEntries g.row.V.Denot). s.entries) c.exchange.ensures.here)) c.in_ok-taken.ensures.kept

pub returns-clause-uncounted : goal.returns-clause-uncounted
returns-clause-uncounted g c =
    let there = c.exchange.ensures.there in
    let es = ap (λ (s : CountedEntries g.row.V.Denot). s.entries) there in
    there ∙ ap (λ (s : CountedEntries g.row.V.Denot). record s { entries = c.split_at.new.entries.counted.entries }) c.in_ok-taken.ensures.same.1
    ∙ ap (λ (xs : List (Entry g.row.V.Denot)). uncounted xs) (sym es)

pub returns-clause-counted : goal.returns-clause-counted
returns-clause-counted g c =
    let short : length c.in_ok-taken.taken.counted.entries ≤ length c.args.entries.now.counted.entries = from_short g.V.PartialEq.eq _ _ _ _ c.in_ok-taken.ensures.split g.met.V.Eq.laws in
    let moved = ap (λ (s : CountedEntries g.row.V.Denot). s.entries) c.exchange.ensures.here in
    let long = ap (λ (xs : List (Entry g.row.V.Denot)). length xs) moved in
    let old = c.args.entries.now.counted in
    counted_part old c.exchange.new.self.counted c.count_removed.new.self (c.len-old_count.result - c.len-count.result)
    (c.exchange.ensures.here ∙ ap (λ (s : CountedEntries g.row.V.Denot). record s { entries = c.in_ok-taken.taken.counted.entries }) c.in_ok-taken.ensures.same.0
    ∙ ap (λ (xs : List (Entry g.row.V.Denot)). record old { entries = xs }) (sym moved))
    (omega (arith, c.len-old_count.ensures, c.len-count.ensures)) c.count_removed.ensures
