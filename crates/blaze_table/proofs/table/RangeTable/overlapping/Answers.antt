use Rattle.blaze_table.proofs.Words.{◌≡◌, ◌≤ℤ◌, ◌∙◌, arith, ap, subst, option_map, ints, up_to, CountedEntries, overlapping, shown_entry, entry_at, never_equal, ending_clear, ending_held, found_from}
use Rattle.blaze_table.proofs.Fills.Ordered.{ordered_of}
use Rattle.blaze_table.proofs.table.RangeTable.overlapping.Goals as goal

pub entry_holding-requires : goal.entry_holding-requires
entry_holding-requires g c = ordered_of g.V.PartialEq.eq c.self.inside.entries.counted.entries c.self.invariant.canonical

pub iter_between-requires : goal.iter_between-requires
iter_between-requires g c =
    let rank = g.T.Integer.rank in
    let es = c.self.inside.entries.counted.entries in
    let starts = found_from (rank c.args.lo) (shown_entry rank (λ v. v.now) c.in-Some.found) es
    (subst (λ o. option_map (shown_entry rank (λ v. v.now)) o ≡ entry_at es (rank c.args.lo)) c.in-Some.is c.entry_holding.ensures) in
    let order : rank c.args.lo ≤ℤ rank c.args.hi = c.requires in
    omega (arith, ints, starts, order)

pub returns-in-Some : goal.returns-in-Some
returns-in-Some g c =
    let rank = g.T.Integer.rank in
    let es = c.self.inside.entries.counted.entries in
    c.iter_between.ensures
    ∙ ap (up_to (rank c.args.hi)) (ending_held never_equal (rank c.args.lo) (shown_entry rank (λ v. v.now) c.in-Some.found) es (ordered_of g.V.PartialEq.eq es c.self.invariant.canonical)
    (subst (λ o. option_map (shown_entry rank (λ v. v.now)) o ≡ entry_at es (rank c.args.lo)) c.in-Some.is c.entry_holding.ensures))
    ∙ ap (λ (s : CountedEntries g.row.V.Denot). overlapping (rank c.args.lo) (rank c.args.hi) s.entries) c.self.view_is

pub returns-in-None : goal.returns-in-None
returns-in-None g c =
    let rank = g.T.Integer.rank in
    let es = c.self.inside.entries.counted.entries in
    c.iter_between-in-None.ensures
    ∙ ap (up_to (rank c.args.hi)) (ending_clear never_equal (rank c.args.lo) es (ordered_of g.V.PartialEq.eq es c.self.invariant.canonical)
    (subst (λ o. option_map (shown_entry rank (λ v. v.now)) o ≡ entry_at es (rank c.args.lo)) c.in-None.is c.entry_holding.ensures))
    ∙ ap (λ (s : CountedEntries g.row.V.Denot). overlapping (rank c.args.lo) (rank c.args.hi) s.entries) c.self.view_is
