use Rattle.range_map_blaze.proofs.Words.{canonical}
use Rattle.range_map_blaze.proofs.GapsWithin.{gaps_made}
use Rattle.range_map_blaze.proofs.GapWalks.{walk_first}
use Rattle.range_map_blaze.proofs.gaps.gaps_on.Goals as goal

pub invariant_of-result : goal.invariant_of-result
invariant_of-result g c =
    let rank = g.T.Integer.rank in
    let eq = g.V.PartialEq.eq in
    let es = c.args.table.now.entries in
    walk_first eq (rank c.args.start) (rank c.args.end) es c.entries_on.result (canonical eq g.met.V.Eq.laws es c.in_hand.ensures.runs) c.requires c.entries_on.ensures

pub returns : goal.returns
returns g c =
    let rank = g.T.Integer.rank in
    gaps_made g.T.Integer.low g.T.Integer.high (rank c.args.start) (rank c.args.end) c.args.table.now.entries g.V.PartialEq.eq g.met.V.Eq.laws c.in_hand.ensures c.requires c.in_hand-2.ensures.from c.in_hand-3.ensures.to c.entries_on.result c.entries_on.ensures
