use Rattle.range_map_blaze.proofs.Words.{IsCanonicalOf, shown_list}
use Rattle.range_map_blaze.proofs.Made.{made_of}
use Rattle.range_map_blaze.proofs.pairs.map_of_pairs.Goals as goal

pub returns : goal.returns
returns g c =
    made_of (IsCanonicalOf g.V.PartialEq.eq g.T.Integer.low g.T.Integer.high (shown_list g.T.Integer.rank c.args.pairs.items)) _ _ c.in_ok-table.ensures c.in_ok-entries.ensures
