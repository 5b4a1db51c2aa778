use Rattle.blaze_streams.proofs.Words.{option_map, Some, refl, ◌∙◌, sym, ap, inl, inr, lt_fails, lt_holds, shown_ends, left_with_right}
use Rattle.blaze_streams.proofs.Shared.{left_gone, left_has, none_with, nothing_shared, right_gone, right_reaches, shared_taken}
use Rattle.blaze_streams.proofs.merge.pieces.take_both.Goals.{in_default-via-in-Some+in_default, in_default-via-in_default}
use Rattle.blaze_streams.proofs.merge.pieces.take_both.Goals as goal

pub returns-in_default-clause-taken : goal.returns-in_default-clause-taken
returns-in_default-clause-taken g c =
    let rank = g.T.Integer.rank in
    nothing_shared g.VCL.Value.PartialEq.eq g.VCR.Value.PartialEq.eq c.args.left.now c.args.right.now
    (elim c.in_default.branch [
      | in_default-via-in-Some+in_default w ↦ inr (sym (ap (option_map (shown_ends rank)) w.in_default.is-1) ∙ c.range-2.ensures.ends)
      | in_default-via-in_default w ↦ inl (sym (ap (option_map (shown_ends rank)) w.in_default.is-0) ∙ c.range.ensures.ends)
    ])

pub returns-then-is_below-clause-taken : goal.returns-then-is_below-clause-taken
returns-then-is_below-clause-taken g c =
    left_gone g.VCL.Value.PartialEq.eq g.VCR.Value.PartialEq.eq _ _ _ _ _
    c.args.left.now c.advance.new.self c.args.right.now c.range.ensures.canonical c.range-2.ensures.canonical
    c.in-Some-Some.ensures.ends c.in-Some-Some.ensures'.ends (lt_holds _ _ (sym c.is_below.ensures ∙ c.if-is_below.true)) c.sub_one-end.ensures c.advance.ensures

pub returns-then-is_below-2-clause-taken : goal.returns-then-is_below-2-clause-taken
returns-then-is_below-2-clause-taken g c =
    right_gone g.VCL.Value.PartialEq.eq g.VCR.Value.PartialEq.eq g.VCL.Value.PartialEq.eq left_with_right none_with _ _ _ _ _
    c.args.left.now _ c.args.right.now c.advance-then-is_below-2.new.self c.range.ensures.canonical c.range-2.ensures.canonical
    c.in-Some-Some.ensures.ends c.in-Some-Some.ensures'.ends (lt_holds _ _ (sym c.is_below-2.ensures ∙ c.if-is_below-2.true)) c.sub_one-end-then-is_below-2.ensures refl c.advance-then-is_below-2.ensures

pub take-requires-clause-has : goal.take-requires-clause-has
take-requires-clause-has g c =
    left_has g.VCL.Value.PartialEq.eq g.VCR.Value.PartialEq.eq _ _ _ _ _ _ c.greater-first.ensures c.lesser-end.ensures
    c.args.left.now c.args.right.now c.range.ensures.canonical c.range-2.ensures.canonical
    c.in-Some-Some.ensures.ends c.in-Some-Some.ensures'.ends (lt_fails _ _ (sym c.is_below.ensures ∙ c.if-is_below.false)) (lt_fails _ _ (sym c.is_below-2.ensures ∙ c.if-is_below-2.false))

pub advance_in_first-requires : goal.advance_in_first-requires
advance_in_first-requires g c = record { reaches = right_reaches g.VCL.Value.PartialEq.eq g.VCR.Value.PartialEq.eq _ _ _ _ _ _ c.greater-first.ensures c.lesser-end.ensures c.args.right.now c.in-Some-Some.ensures'.ends }

pub returns-clause-taken : goal.returns-clause-taken
returns-clause-taken g c =
    shared_taken g.VCL.Value.PartialEq.eq g.VCR.Value.PartialEq.eq _ _ _ _ _ _ c.greater-first.ensures c.lesser-end.ensures
    c.args.left.now c.take.new.self c.args.right.now c.advance_in_first.new.self (Some (g.VCL.ValueCarrier.shown c.in_ok-carrier.carrier))
    c.range.ensures.canonical c.range-2.ensures.canonical
    c.in-Some-Some.ensures.ends c.in-Some-Some.ensures'.ends (lt_fails _ _ (sym c.is_below.ensures ∙ c.if-is_below.false)) (lt_fails _ _ (sym c.is_below-2.ensures ∙ c.if-is_below-2.false))
    c.in_ok-carrier.ensures.carrier c.take.ensures.rest c.advance_in_first.ensures
