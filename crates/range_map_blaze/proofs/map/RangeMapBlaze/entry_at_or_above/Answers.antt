use Rattle.range_map_blaze.proofs.Words.{find, int_lt, ◌≡◌, ◌∙◌, Some, None, subst, option_map, shown_entry, entry_at, canonical}
use Rattle.range_map_blaze.proofs.Nearest.{first_with_key, first_above}
use Rattle.range_map_blaze.proofs.map.RangeMapBlaze.entry_at_or_above.Goals as goal

pub returns-in-Some : goal.returns-in-Some
returns-in-Some g c =
    let rank = g.T.Integer.rank in
    let es = c.args.self.now.entries in
    first_with_key g.V.PartialEq.eq (rank c.args.key) es (canonical g.V.PartialEq.eq g.met.V.Eq.laws es c.in_hand.ensures.runs) (shown_entry rank (λ v. v.now) c.in-Some.found)
    (subst (λ s. Some (shown_entry rank (λ v. v.now) c.in-Some.found) ≡ entry_at s.entries (rank c.args.key)) c.self.view_is c.in-Some.ensures.entry)

pub returns-in-None : goal.returns-in-None
returns-in-None g c =
    let rank = g.T.Integer.rank in
    let es = c.args.self.now.entries in
    subst (λ s. option_map (shown_entry rank (λ v. v.now)) c.next_above.result ≡ find (λ e. int_lt (rank c.args.key) e.lo) s.entries) c.self.view_is c.next_above.ensures
    ∙ first_above g.V.PartialEq.eq (rank c.args.key) es (canonical g.V.PartialEq.eq g.met.V.Eq.laws es c.in_hand.ensures.runs)
    (subst (λ s. None ≡ entry_at s.entries (rank c.args.key)) c.self.view_is c.in-None.ensures.entry)
