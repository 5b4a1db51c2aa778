use Rattle.range_map_blaze.proofs.Words.{rules, sym, subst, IsFilledFrom}
use Rattle.range_map_blaze.proofs.Paints.FilledFrom.{filled_from_none}
use Rattle.range_map_blaze.proofs.map.RangeMapBlaze.extend_absent.Goals as goal

pub returns-then-is_empty-clause-ok : goal.returns-then-is_empty-clause-ok
returns-then-is_empty-clause-ok g c =
    subst (λ ps. IsFilledFrom g.V.PartialEq.eq g.T.Integer.low g.T.Integer.high ps c.args.self.now.entries c.args.self.now.entries) (sym (c.is_empty.ensures.0 c.if-is_empty.true))
    (filled_from_none g.V.PartialEq.eq g.met.V.Eq.laws g.T.Integer.low g.T.Integer.high _ c.in_hand.ensures)

pub returns-clause-ok : goal.returns-clause-ok
returns-clause-ok g c = search rules

pub returns-clause-err : goal.returns-clause-err
returns-clause-err g c = search rules
