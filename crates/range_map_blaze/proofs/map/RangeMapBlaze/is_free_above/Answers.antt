use Rattle.range_map_blaze.proofs.Words.{◌≡◌, refl, ap, List, Entry, at}
use Rattle.range_map_blaze.proofs.PartsTaken.{free_above, room_above}
use Rattle.range_map_blaze.proofs.map.RangeMapBlaze.is_free_above.Goals as goal

pub returns-in-Some-clause-free : goal.returns-in-Some-clause-free
returns-in-Some-clause-free g c =
    free_above (at c.args.self.now.entries) (g.T.Integer.rank c.in-Some.pair.0) c.in-Some.pair.1.now c.in-Some.ensures (g.T.Integer.rank c.args.end) c.is_at_most.result c.is_at_most.ensures

pub returns-in-Some-clause-room : goal.returns-in-Some-clause-room
returns-in-Some-clause-room g c =
    room_above (g.T.Integer.rank c.in-Some.pair.0) (g.T.Integer.rank c.args.end) g.T.Integer.high c.is_at_most.result c.is_at_most.ensures c.in_hand.ensures.to

pub returns-in-None-clause-free : goal.returns-in-None-clause-free
returns-in-None-clause-free g c = ((λ t. λ j u. ap (λ (es : List (Entry g.row.V.Denot)). at es j) c.in-None.ensures), (λ f. refl))
