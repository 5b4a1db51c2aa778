use Rattle.blaze_streams.proofs.Words.{◌≡◌, ◌∙◌, ap, subst, option_map, option_xor, MatchOption-at_none, MatchOption-at_some, range_in, first_entry, after, first_key, lesser}
use Rattle.blaze_streams.proofs.Taken.{at_most_min, both_skipped, left_taken, none_xor, reaches_end, right_taken, xor_none}
use Rattle.blaze_streams.proofs.merge.choice.ExactlyOneChoice.take.Goals as goal

pub returns-in-Some-clause-taken : goal.returns-in-Some-clause-taken
returns-in-Some-clause-taken g c =
    left_taken g.VC.Value.PartialEq.eq c.args.left.now c.take_before.new.cursor c.args.right.now _ _ _ (MatchOption-at_some _ _ _ c.in-Some.is c.in_ok-piece.ensures.taken) option_xor xor_none

pub returns-clause-taken : goal.returns-clause-taken
returns-clause-taken g c =
    let none = MatchOption-at_none _ _ c.in_default.is c.in_ok-piece.ensures.taken in
    let none' = MatchOption-at_none _ _ c.in_default-2.is c.in_ok-other.ensures.taken in
    both_skipped g.VC.Value.PartialEq.eq c.args.left.now c.advance_in_first.new.self c.args.right.now c.advance_in_first-2.new.self _ _ _ _ _ c.take_before.ensures.cursor c.take_before.ensures.other c.lesser-end.ensures
    none.1 (subst (λ l. lesser (first_key l) (first_key c.args.right.now) ≡ first_key l) none.0 none'.1)
    (c.in-Some-Some.ensures.ends ∙ ap (λ l. option_map range_in (first_entry l)) none.0) (c.in-Some-Some.ensures'.ends ∙ ap (λ l. option_map range_in (first_entry l)) none'.0)
    (c.advance_in_first.ensures ∙ ap (after _) none.0) (c.advance_in_first-2.ensures ∙ ap (after _) none'.0)

pub returns-in-Some-2-clause-taken : goal.returns-in-Some-2-clause-taken
returns-in-Some-2-clause-taken g c =
    let eq = g.VC.Value.PartialEq.eq in
    let none = MatchOption-at_none _ _ c.in_default.is c.in_ok-piece.ensures.taken in
    let taken = MatchOption-at_some _ _ _ c.in-Some-2.is c.in_ok-other.ensures.taken in
    right_taken eq c.args.right.now c.take_before-2.new.cursor c.take_before.new.cursor _ _ _ taken option_xor none_xor c.args.left.now none.0

pub advance_in_first-requires : goal.advance_in_first-requires
advance_in_first-requires g c = record { reaches = reaches_end _ _ c.take_before.new.cursor _ c.in-Some-Some.ensures.ends (at_most_min _ _ _ c.lesser-end.ensures).0 }

pub advance_in_first-requires-2 : goal.advance_in_first-requires-2
advance_in_first-requires-2 g c = record { reaches = reaches_end _ _ c.take_before-2.new.cursor _ c.in-Some-Some.ensures'.ends (at_most_min _ _ _ c.lesser-end.ensures).1 }
