use Rattle.range_map_blaze.proofs.Words.{subst, arith, ints, shown_range_entry, IsPairPainted}
use Rattle.range_map_blaze.proofs.Paints.InTurn.{pair_nowhere, pair_painted}
use Rattle.range_map_blaze.proofs.map.RangeMapBlaze.paint_pair.Goals as goal

pub returns-in_ok-paint-clause-ok : goal.returns-in_ok-paint-clause-ok
returns-in_ok-paint-clause-ok g c =
    subst (λ s. IsPairPainted g.V.PartialEq.eq g.T.Integer.low g.T.Integer.high (shown_range_entry g.T.Integer.rank (λ v. v) c.args.pair) s.entries c.paint.new.self.entries) c.self.view_is
    (pair_painted g.V.PartialEq.eq g.met.V.Eq.laws g.T.Integer.low g.T.Integer.high (shown_range_entry g.T.Integer.rank (λ v. v) c.args.pair) _ _ (grind (arith, ints, c.is_at_most.ensures, c.if-is_at_most.true)) c.in_ok-paint.ensures.ok (λ i. (c.in_ok-paint.ensures.inside i).1))

pub returns-else-is_at_most-clause-ok : goal.returns-else-is_at_most-clause-ok
returns-else-is_at_most-clause-ok g c =
    pair_nowhere g.V.PartialEq.eq g.met.V.Eq.laws g.T.Integer.low g.T.Integer.high (shown_range_entry g.T.Integer.rank (λ v. v) c.args.pair) _ (grind (arith, ints, c.is_at_most.ensures, c.if-is_at_most.false)) c.in_hand.ensures
