use Rattle.blaze_streams.proofs.Words.{◌∙◌, sym, ap, subst, arith, ◌<ℤ◌, ints, at, IsCanonical, ahead_of}
use Rattle.blaze_streams.proofs.Steady.{at_first}
use Rattle.blaze_streams.proofs.cursor.Cursor.here.Goals as goal

pub returns-else-is_at_most : goal.returns-else-is_at_most
returns-else-is_at_most g c =
    let rank = g.T.Integer.rank in
    let eq = g.VC.Value.PartialEq.eq in
    let less : rank c.args.key <ℤ rank c.in-Some.head.start = grind (arith, ints, c.is_at_most.ensures, c.if-is_at_most.false) in
    let is = ap (λ h. ahead_of rank g.VC.ValueCarrier.shown h (g.I.SortedDisjointMap.left c.self.inside.rest)) c.in-Some.is in
    sym (ap (λ l. at l (rank c.args.key)) (sym c.self.view_is ∙ is) ∙ at_first eq _ _ (rank c.args.key) (subst (IsCanonical eq) is c.self.invariant.1) less)
