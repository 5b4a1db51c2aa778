use Rattle.range_map_blaze.proofs.Words.{find, int_lt, reverse, ◌≡◌, ◌∙◌, Some, None, subst, option_map, shown_entry, entry_at, starts_ascend, canonical}
use Rattle.range_map_blaze.proofs.Nearest.{last_with_key, last_under_key}
use Rattle.range_map_blaze.proofs.map.RangeMapBlaze.entry_at_or_below.Goals as goal

pub returns-in-Some : goal.returns-in-Some
returns-in-Some g c =
    let rank = g.T.Integer.rank in
    let es = c.args.self.now.entries in
    let in_order = canonical g.V.PartialEq.eq g.met.V.Eq.laws es c.in_hand.ensures.runs in
    let ascend = starts_ascend g.V.PartialEq.eq g.T.Integer.low g.T.Integer.high es in_order c.in_hand.ensures.keys in
    last_with_key g.V.PartialEq.eq (rank c.args.key) g.T.Integer.low g.T.Integer.high es in_order ascend (shown_entry rank (λ v. v.now) c.in-Some.found)
    (subst (λ s. Some (shown_entry rank (λ v. v.now) c.in-Some.found) ≡ entry_at s.entries (rank c.args.key)) c.self.view_is c.in-Some.ensures.entry)

pub returns-in-None : goal.returns-in-None
returns-in-None g c =
    let rank = g.T.Integer.rank in
    let es = c.args.self.now.entries in
    let in_order = canonical g.V.PartialEq.eq g.met.V.Eq.laws es c.in_hand.ensures.runs in
    let ascend = starts_ascend g.V.PartialEq.eq g.T.Integer.low g.T.Integer.high es in_order c.in_hand.ensures.keys in
    subst (λ s. option_map (shown_entry rank (λ v. v.now)) c.next_below.result ≡ find (λ e. int_lt e.hi (rank c.args.key)) (reverse s.entries)) c.self.view_is c.next_below.ensures
    ∙ last_under_key g.V.PartialEq.eq (rank c.args.key) g.T.Integer.low g.T.Integer.high es in_order ascend
    (subst (λ s. None ≡ entry_at s.entries (rank c.args.key)) c.self.view_is c.in-None.ensures.entry)
