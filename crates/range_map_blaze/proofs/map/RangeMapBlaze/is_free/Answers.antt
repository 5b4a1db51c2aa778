use Rattle.range_map_blaze.proofs.Words.{None, refl, shown_entry, canonical}
use Rattle.range_map_blaze.proofs.TakenBack.{free_before, free_decided}
use Rattle.range_map_blaze.proofs.map.RangeMapBlaze.is_free.Goals as goal

pub returns-in-Some : goal.returns-in-Some
returns-in-Some g c =
    let eq = g.V.PartialEq.eq in
    let es = c.args.self.now.entries in
    free_decided eq (g.T.Integer.rank c.args.start) (g.T.Integer.rank c.args.end) es (canonical eq g.met.V.Eq.laws es c.in_hand.ensures.runs) c.requires (shown_entry g.T.Integer.rank (λ v. v.now) c.in-Some.entry) c.in-Some.ensures c.is_below.result c.is_below.ensures

pub returns-in-None : goal.returns-in-None
returns-in-None g c =
    let eq = g.V.PartialEq.eq in
    let es = c.args.self.now.entries in
    ((λ t. free_before eq (g.T.Integer.rank c.args.start) (g.T.Integer.rank c.args.end) es (canonical eq g.met.V.Eq.laws es c.in_hand.ensures.runs) None c.in-None.ensures tt), (λ f. refl))
