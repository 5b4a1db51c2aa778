use Rattle.blaze_streams.proofs.Words.{Some, refl, ◌∙◌, ap, MatchOption-at_none, MatchOption-at_some, same_along, right_first, after}
use Rattle.blaze_streams.proofs.Taken.{left_taken, right_first_taken}
use Rattle.blaze_streams.proofs.merge.choice.RightFirstChoice.take.Goals as goal

pub returns-clause-taken : goal.returns-clause-taken
returns-clause-taken g c =
    let eq = g.VC.Value.PartialEq.eq in
    let none = MatchOption-at_none _ _ c.in_default.is c.in_ok-piece.ensures.taken in
    right_first_taken eq eq right_first c.args.left.now c.advance.new.self c.args.right.now c.take.new.self _ _ (Some (g.VC.ValueCarrier.shown c.in_ok-carrier.carrier))
    c.range.ensures.canonical none.1 c.in-Some-range.ensures.ends (λ o p v. refl) (λ v is. same_along eq is refl c.in_ok-carrier.ensures.carrier) (c.advance.ensures ∙ ap (after _) none.0) c.take.ensures.rest

pub returns-in-Some-clause-taken : goal.returns-in-Some-clause-taken
returns-in-Some-clause-taken g c =
    left_taken g.VC.Value.PartialEq.eq c.args.left.now c.take_before.new.cursor c.args.right.now _ _ _ (MatchOption-at_some _ _ _ c.in-Some.is c.in_ok-piece.ensures.taken) right_first (λ x. refl)
