use Rattle.std.proofs.lemmas.Result.{on_ok_weaker}
use Rattle.range_map_blaze.proofs.Words.{◌∙◌, ap, shown_range, entry}
use Rattle.range_map_blaze.proofs.Paints.InTurn.{pair_alike}
use Rattle.range_map_blaze.proofs.map.RangeMapBlaze.paint_range.Goals as goal

pub returns-clause-ok : goal.returns-clause-ok
returns-clause-ok g c =
    let rank = g.T.Integer.rank in
    let e = shown_range rank g.VC.ValueCarrier.shown (c.args.range, c.args.carrier) in
    let painted = entry (rank c.into_inner-start.result.0) (rank c.into_inner-start.result.1) c.in_ok-value.value in
    on_ok_weaker c.paint_pair.result
    (λ i. pair_alike g.V.PartialEq.eq g.met.V.Eq.laws g.T.Integer.low g.T.Integer.high e painted c.args.self.now.entries c.paint_pair.new.self.entries i
    (ap rank c.into_inner-start.ensures.start) (ap rank c.into_inner-start.ensures.end) (g.met.V.Eq.laws.symm _ _ ∙ c.in_ok-value.ensures)) c.paint_pair.ensures.ok
