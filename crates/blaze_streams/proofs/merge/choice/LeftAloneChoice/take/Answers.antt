use Rattle.blaze_streams.proofs.Words.{arith, None, refl, ◌∙◌, ap, sym, option_map, ints, MatchOption-at_none, MatchOption-at_some, lt_holds, range_in, shown_ends, first_entry, left_alone, after}
use Rattle.blaze_streams.proofs.Shared.{right_gone}
use Rattle.blaze_streams.proofs.Taken.{left_taken, none_alone, nothing_alone, nothing_left, reaches_end, right_first_taken}
use Rattle.blaze_streams.proofs.merge.choice.LeftAloneChoice.take.Goals.{in_default-2-via-in-Some+in_default, in_default-2-via-in_default}
use Rattle.blaze_streams.proofs.merge.choice.LeftAloneChoice.take.Goals as goal

pub returns-in_default-2-clause-taken : goal.returns-in_default-2-clause-taken
returns-in_default-2-clause-taken g c =
    let none = MatchOption-at_none _ _ c.in_default.is c.in_ok-piece.ensures.taken in
    elim c.in_default-2.branch [
      | in_default-2-via-in-Some+in_default w ↦ nothing_left left_alone refl c.args.left.now c.args.right.now none.1 (sym (ap (option_map (shown_ends g.T.Integer.rank)) w.in_default-2.is-1) ∙ c.range-2.ensures.ends)
      | in_default-2-via-in_default w ↦ nothing_alone c.args.left.now c.args.right.now (sym (ap (option_map (shown_ends g.T.Integer.rank)) w.in_default-2.is-0) ∙ c.range.ensures.ends ∙ ap (λ l. option_map range_in (first_entry l)) none.0)
    ]

pub returns-then-is_below-clause-taken : goal.returns-then-is_below-clause-taken
returns-then-is_below-clause-taken g c =
    let none = MatchOption-at_none _ _ c.in_default.is c.in_ok-piece.ensures.taken in
    right_gone g.VCL.Value.PartialEq.eq g.VCR.Value.PartialEq.eq g.VCL.Value.PartialEq.eq left_alone none_alone _ _ _ _ _
    c.args.left.now c.take_before.new.cursor c.args.right.now c.advance.new.self c.take_before.ensures.cursor c.take_before.ensures.other
    (c.in-Some-Some.ensures.ends ∙ ap (λ l. option_map range_in (first_entry l)) none.0) c.in-Some-Some.ensures'.ends
    (lt_holds _ _ (sym c.is_below.ensures ∙ c.if-is_below.true)) c.sub_one-end.ensures none.0 c.advance.ensures

pub returns-clause-taken : goal.returns-clause-taken
returns-clause-taken g c =
    let none = MatchOption-at_none _ _ c.in_default.is c.in_ok-piece.ensures.taken in
    right_first_taken g.VCR.Value.PartialEq.eq g.VCL.Value.PartialEq.eq left_alone c.args.left.now c.advance-2.new.self c.args.right.now c.advance_in_first.new.self _ _ None
    c.take_before.ensures.other none.1 c.in-Some-Some.ensures'.ends (λ o p v. refl) (λ v is. tt) (c.advance-2.ensures ∙ ap (after _) none.0) c.advance_in_first.ensures

pub returns-in-Some-clause-taken : goal.returns-in-Some-clause-taken
returns-in-Some-clause-taken g c =
    left_taken g.VCL.Value.PartialEq.eq c.args.left.now c.take_before.new.cursor c.args.right.now _ _ _ (MatchOption-at_some _ _ _ c.in-Some.is c.in_ok-piece.ensures.taken) left_alone (λ x. refl)

pub advance_in_first-requires : goal.advance_in_first-requires
advance_in_first-requires g c = record { reaches = reaches_end _ _ c.args.right.now _ c.in-Some-Some.ensures'.ends (omega (arith, ints)) }
