use Rattle.range_map_blaze.proofs.Words.{◌≡◌, ◌∙◌, subst, option_map, entry_at, shown_entry}
use Rattle.range_map_blaze.proofs.Told.{told_run, told_place, told_none}
use Rattle.range_map_blaze.proofs.map.RangeMapBlaze.range_at.Goals as goal

pub returns-clause-holds : goal.returns-clause-holds
returns-clause-holds g c =
    told_place g.T.Integer.rank g.V.PartialEq.eq g.met.V.Eq.laws g.T.Integer.low g.T.Integer.high c.args.self.now.entries c.in_hand.ensures (g.T.Integer.rank c.args.key) c.range_of.result
    (c.range_of.ensures.entry ∙ subst (λ s. option_map (shown_entry g.T.Integer.rank (λ v. v.now)) c.find.result ≡ entry_at s.entries (g.T.Integer.rank c.args.key)) c.self.view_is c.find.ensures.entry)

pub returns-clause-run : goal.returns-clause-run
returns-clause-run g c =
    told_run g.T.Integer.rank g.V.PartialEq.eq g.met.V.Eq.laws g.T.Integer.low g.T.Integer.high c.args.self.now.entries c.in_hand.ensures (g.T.Integer.rank c.args.key) c.range_of.result
    (c.range_of.ensures.entry ∙ subst (λ s. option_map (shown_entry g.T.Integer.rank (λ v. v.now)) c.find.result ≡ entry_at s.entries (g.T.Integer.rank c.args.key)) c.self.view_is c.find.ensures.entry)

pub returns-clause-none : goal.returns-clause-none
returns-clause-none g c =
    told_none g.T.Integer.rank g.V.PartialEq.eq g.met.V.Eq.laws g.T.Integer.low g.T.Integer.high c.args.self.now.entries c.in_hand.ensures (g.T.Integer.rank c.args.key) c.range_of.result
    (c.range_of.ensures.entry ∙ subst (λ s. option_map (shown_entry g.T.Integer.rank (λ v. v.now)) c.find.result ≡ entry_at s.entries (g.T.Integer.rank c.args.key)) c.self.view_is c.find.ensures.entry)
