use Rattle.range_map_blaze.proofs.Words.{◌≡◌, refl, ap, List, Entry, at}
use Rattle.range_map_blaze.proofs.PartsTaken.{free_below}
use Rattle.range_map_blaze.proofs.map.RangeMapBlaze.is_free_below.Goals as goal

pub returns-in-Some : goal.returns-in-Some
returns-in-Some g c =
    free_below (at c.args.self.now.entries) (g.T.Integer.rank c.in-Some.pair.0) c.in-Some.pair.1.now c.in-Some.ensures (g.T.Integer.rank c.args.start) c.is_at_most.result c.is_at_most.ensures

pub returns-in-None : goal.returns-in-None
returns-in-None g c = ((λ t. λ j u. ap (λ (es : List (Entry g.row.V.Denot)). at es j) c.in-None.ensures), (λ f. refl))
