use Rattle.blaze_table.proofs.Words.{◌≡◌, ◌∙◌, subst, option_map, shown_entry, entry_at, never_equal, ending_clear, ending_held}
use Rattle.blaze_table.proofs.search.entries_ending_from.Goals as goal

pub returns-in-Some : goal.returns-in-Some
returns-in-Some g c =
    let rank = g.T.Integer.rank in
    let es = c.args.entries.now.counted.entries in
    c.iter_starting_from.ensures
    ∙ ending_held never_equal (rank c.args.key) (shown_entry rank (λ v. v.now) c.in-Some.found) es c.requires
    (subst (λ o. option_map (shown_entry rank (λ v. v.now)) o ≡ entry_at es (rank c.args.key)) c.in-Some.is c.entry_holding.ensures)

pub returns-in-None : goal.returns-in-None
returns-in-None g c =
    let rank = g.T.Integer.rank in
    let es = c.args.entries.now.counted.entries in
    c.iter_starting_from-in-None.ensures
    ∙ ending_clear never_equal (rank c.args.key) es c.requires
    (subst (λ o. option_map (shown_entry rank (λ v. v.now)) o ≡ entry_at es (rank c.args.key)) c.in-None.is c.entry_holding.ensures)
