use Rattle.range_map_blaze.proofs.Words.{refl, sym, subst, ArePaintedInTurn}
use Rattle.range_map_blaze.proofs.map.RangeMapBlaze.extend_from.Goals as goal

pub returns-then-is_empty-clause-ok : goal.returns-then-is_empty-clause-ok
returns-then-is_empty-clause-ok g c =
    subst (λ ps. ArePaintedInTurn g.V.PartialEq.eq g.T.Integer.low g.T.Integer.high ps c.args.self.now.entries c.args.self.now.entries) (sym (c.is_empty.ensures.0 c.if-is_empty.true))
    refl
