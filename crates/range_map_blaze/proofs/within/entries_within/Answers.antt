use Rattle.range_map_blaze.proofs.CutEach.{within_made}
use Rattle.range_map_blaze.proofs.within.entries_within.Goals as goal

pub returns : goal.returns
returns g c =
    let rank = g.T.Integer.rank in
    within_made g.V.PartialEq.eq g.met.V.Eq.laws g.T.Integer.low g.T.Integer.high (rank c.args.start) (rank c.args.end) c.args.table.now.entries c.in_hand.ensures c.requires c.entries_on.result c.entries_on.ensures
