use Rattle.range_map_blaze.proofs.Words.{rules, refl, sym, subst, ArePaintedInTurn}
use Rattle.range_map_blaze.proofs.map.RangeMapBlaze.extend_with.Goals as goal

pub returns-then-is_empty-clause-ok : goal.returns-then-is_empty-clause-ok
returns-then-is_empty-clause-ok g c =
    subst (λ ps. ArePaintedInTurn g.V.PartialEq.eq g.T.Integer.low g.T.Integer.high ps c.args.self.now.entries c.args.self.now.entries) (sym (c.is_empty.ensures.0 c.if-is_empty.true))
    refl

pub returns-clause-ok : goal.returns-clause-ok
returns-clause-ok g c = search rules

pub returns-clause-counted : goal.returns-clause-counted
returns-clause-counted g c = search rules
