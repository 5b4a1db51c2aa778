use Rattle.range_map_cli.proofs.Words.{rules}
use Rattle.range_map_cli.proofs.Stepping.Stepped.{first_pair, without_first}
use Rattle.range_map_cli.proofs.steps.pop_first.Goals as goal

pub returns-clause-ok : goal.returns-clause-ok
returns-clause-ok g c = without_first g.V.PartialEq.eq _ _ g.T.Integer.rank g.met.V.Eq.laws c.in_ok-popped.popped c.args.map.now c.pop_first.new.self c.in_hand.ensures c.in_ok-popped.ensures.ok

pub returns-clause-pair : goal.returns-clause-pair
returns-clause-pair g c = first_pair g.V.PartialEq.eq _ _ g.T.Integer.rank g.met.V.Eq.laws c.in_ok-popped.popped c.args.map.now c.pop_first.new.self c.in_hand.ensures c.in_ok-popped.ensures.ok

pub returns-in_err-popped-clause-err : goal.returns-in_err-popped-clause-err
returns-in_err-popped-clause-err g c = search rules
