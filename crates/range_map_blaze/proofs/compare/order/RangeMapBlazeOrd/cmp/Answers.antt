use Rattle.range_map_blaze.proofs.Words.{◌∙◌}
use Rattle.range_map_blaze.proofs.Order.MapOrder.{order_of_pairs, ties_where_equal}
use Rattle.range_map_blaze.proofs.compare.order.RangeMapBlazeOrd.cmp.Goals as goal

pub returns-clause-member : goal.returns-clause-member
returns-clause-member g c =
    c.cmp_counted.ensures.order ∙ order_of_pairs g.V.PartialEq.eq g.V.Ord.cmp g.met.V.Ord.matches_eq g.met.V.Eq.laws g.T.Integer.low g.T.Integer.high c.args.self.now.entries c.args.other.now.entries c.in_hand.ensures c.in_hand-2.ensures

pub returns-clause-equal : goal.returns-clause-equal
returns-clause-equal g c =
    ties_where_equal g.V.PartialEq.eq g.V.Ord.cmp g.met.V.Ord.matches_eq g.met.V.Eq.laws g.T.Integer.low g.T.Integer.high c.args.self.now.entries c.args.other.now.entries c.in_hand.ensures c.in_hand-2.ensures c.cmp_counted.result c.cmp_counted.ensures.order
