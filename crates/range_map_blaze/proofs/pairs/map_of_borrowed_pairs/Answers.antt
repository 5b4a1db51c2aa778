use Rattle.range_map_blaze.proofs.Words.{map, IsCanonicalOf, shown_entry}
use Rattle.range_map_blaze.proofs.BorrowedValues.{cloned_is}
use Rattle.range_map_blaze.proofs.Made.{made_of}
use Rattle.range_map_blaze.proofs.pairs.map_of_borrowed_pairs.Goals as goal

pub from_canonical-requires : goal.from_canonical-requires
from_canonical-requires g c = record {
  range_map =
      (cloned_is g.V.PartialEq.eq g.met.V.Eq.laws g.T.Integer.low g.T.Integer.high g.T.Integer.rank c.args.pairs.items c.in_ok-borrowed.borrowed.items _ c.in_ok-borrowed.ensures c.in_ok-entries.ensures).range_map;
}

pub returns : goal.returns
returns g c =
    made_of (IsCanonicalOf g.V.PartialEq.eq g.T.Integer.low g.T.Integer.high (map (shown_entry g.T.Integer.rank (λ v. v.now)) c.args.pairs.items)) _ _ c.in_ok-table.ensures (cloned_is g.V.PartialEq.eq g.met.V.Eq.laws g.T.Integer.low g.T.Integer.high g.T.Integer.rank c.args.pairs.items c.in_ok-borrowed.borrowed.items _ c.in_ok-borrowed.ensures c.in_ok-entries.ensures)
