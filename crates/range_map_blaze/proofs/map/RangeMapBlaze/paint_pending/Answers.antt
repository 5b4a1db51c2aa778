use Rattle.range_map_blaze.proofs.Words.{ap, sym, subst, option_map, option_to_list, shown_range_entry, IsExtended}
use Rattle.range_map_blaze.proofs.Paints.Paintings.{extended_none, pair_extended}
use Rattle.range_map_blaze.proofs.map.RangeMapBlaze.paint_pending.Goals as goal

pub returns-in-None-clause-ok : goal.returns-in-None-clause-ok
returns-in-None-clause-ok g c =
    subst (λ ps. IsExtended g.V.PartialEq.eq g.T.Integer.low g.T.Integer.high ps c.args.self.now.entries c.args.self.now.entries) (ap (λ o. option_to_list (option_map (shown_range_entry g.T.Integer.rank (λ v. v)) o)) (sym c.in-None.is))
    (extended_none g.V.PartialEq.eq g.met.V.Eq.laws g.T.Integer.low g.T.Integer.high _ c.in_hand.ensures)

pub returns-in-Some-clause-ok : goal.returns-in-Some-clause-ok
returns-in-Some-clause-ok g c =
    rw c.in-Some.is (pair_extended g.V.PartialEq.eq g.met.V.Eq.laws g.T.Integer.low g.T.Integer.high c.paint_pair.result (shown_range_entry g.T.Integer.rank (λ v. v) c.in-Some.pair) c.args.self.now.entries c.paint_pair.new.self.entries
    c.in_hand.ensures c.paint_pair.ensures.ok)
