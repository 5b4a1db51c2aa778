use Rattle.range_map_cli.proofs.Stepping.Stepped.{last_pair, without_last}
use Rattle.range_map_cli.proofs.steps.pop_last.Goals as goal

pub returns-clause-ok : goal.returns-clause-ok
returns-clause-ok g c = without_last g.V.PartialEq.eq _ _ g.T.Integer.rank g.met.V.Eq.laws c.in_ok-popped.popped c.args.map.now c.pop_last.new.self c.in_hand.ensures c.in_ok-popped.ensures.ok

pub returns-clause-pair : goal.returns-clause-pair
returns-clause-pair g c = last_pair g.V.PartialEq.eq _ _ g.T.Integer.rank g.met.V.Eq.laws c.in_ok-popped.popped c.args.map.now c.pop_last.new.self c.in_hand.ensures c.in_ok-popped.ensures.ok
