use Rattle.range_map_cli.proofs.Stepping.Filling.{paints_alone, steps_paint_and_fill}
use Rattle.range_map_cli.proofs.laws.paints_and_fills_in_any_order.Goals as goal

pub returns-clause-steps : goal.returns-clause-steps
returns-clause-steps g c = steps_paint_and_fill g.T.Integer.rank g.T.Integer.low g.T.Integer.high

pub returns-clause-paints : goal.returns-clause-paints
returns-clause-paints g c = paints_alone
