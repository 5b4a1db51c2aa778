use Rattle.range_map_blaze.proofs.Words.{shown_list}
use Rattle.range_map_blaze.proofs.Paints.Following.{clones_chosen}
use Rattle.range_map_blaze.proofs.map.RangeMapBlaze.on_keys.Goals as goal

pub from_canonical-requires : goal.from_canonical-requires
from_canonical-requires g c = record {
  range_map =
      let rank = g.T.Integer.rank in
      let clones = shown_list rank c.in_ok-entries.entries.items in
      (clones_chosen g.V.PartialEq.eq g.met.V.Eq.laws g.T.Integer.low g.T.Integer.high (rank c.args.start) (rank c.args.end) c.args.self.now.entries clones c.in_hand.ensures c.in_ok-entries.ensures).range_map;
}

pub returns : goal.returns
returns g c =
    let rank = g.T.Integer.rank in
    let clones = shown_list rank c.in_ok-entries.entries.items in
    rw c.in_ok-table.ensures (clones_chosen g.V.PartialEq.eq g.met.V.Eq.laws g.T.Integer.low g.T.Integer.high (rank c.args.start) (rank c.args.end) c.args.self.now.entries clones c.in_hand.ensures c.in_ok-entries.ensures)
