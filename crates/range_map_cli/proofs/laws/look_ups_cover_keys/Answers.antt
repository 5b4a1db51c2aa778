use Rattle.range_map_cli.proofs.Stepping.LookUps.{look_ups_cover}
use Rattle.range_map_cli.proofs.laws.look_ups_cover_keys.Goals as goal

pub returns : goal.returns
returns g c = look_ups_cover g.V.PartialEq.eq g.T.Integer.low g.T.Integer.high g.met.V.Eq.laws g.met.T.Integer.ranked.some_key
