use Rattle.range_map_blaze.proofs.Words.{◌∙◌}
use Rattle.range_map_blaze.proofs.Told.{below_run, below_reaches, below_clear, below_none}
use Rattle.range_map_blaze.proofs.map.RangeMapBlaze.range_at_or_below.Goals as goal

pub returns-clause-run : goal.returns-clause-run
returns-clause-run g c = below_run g.T.Integer.rank g.V.PartialEq.eq g.met.V.Eq.laws g.T.Integer.low g.T.Integer.high c.args.self.now.entries c.in_hand.ensures (g.T.Integer.rank c.args.key) c.range_of.result (c.range_of.ensures.entry ∙ c.entry_at_or_below.ensures)

pub returns-clause-reaches : goal.returns-clause-reaches
returns-clause-reaches g c = below_reaches g.T.Integer.rank g.V.PartialEq.eq g.met.V.Eq.laws g.T.Integer.low g.T.Integer.high c.args.self.now.entries c.in_hand.ensures (g.T.Integer.rank c.args.key) c.range_of.result (c.range_of.ensures.entry ∙ c.entry_at_or_below.ensures)

pub returns-clause-clear : goal.returns-clause-clear
returns-clause-clear g c = below_clear g.T.Integer.rank g.V.PartialEq.eq g.met.V.Eq.laws g.T.Integer.low g.T.Integer.high c.args.self.now.entries c.in_hand.ensures (g.T.Integer.rank c.args.key) c.range_of.result (c.range_of.ensures.entry ∙ c.entry_at_or_below.ensures)

pub returns-clause-none : goal.returns-clause-none
returns-clause-none g c = below_none g.T.Integer.rank g.V.PartialEq.eq g.met.V.Eq.laws g.T.Integer.low g.T.Integer.high c.args.self.now.entries c.in_hand.ensures (g.T.Integer.rank c.args.key) c.range_of.result (c.range_of.ensures.entry ∙ c.entry_at_or_below.ensures)
