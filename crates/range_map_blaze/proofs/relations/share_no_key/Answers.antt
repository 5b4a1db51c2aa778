use Rattle.range_map_blaze.proofs.Words.{arith, ints, inl, inr, option_map, ap, shown_ends, ◌∙◌, sym, lt_fails, lt_holds, lengths_left}
use Rattle.range_map_blaze.proofs.SharedKeys.{fewer_below, left_passed, nothing_left, right_passed, shared, shorter_left, shorter_right, whole_lists}
use Rattle.range_map_blaze.proofs.relations.share_no_key.Goals as goal

pub loop-our-init : goal.loop-our-init
loop-our-init g c =
    whole_lists c.args.left.now.entries c.new-ours.result c.args.right.now.entries c.new-theirs.result
    (c.new-ours.ensures ∙ c.new.ensures) (c.new-theirs.ensures ∙ c.new-2.ensures)

pub returns-else-is_below-2 : goal.returns-else-is_below-2
returns-else-is_below-2 g c =
    shared g.V.PartialEq.eq g.W.PartialEq.eq _ _ _ _ c.loop-our.ours c.loop-our.theirs c.range.ensures.canonical c.range-in-loop-our.ensures.canonical
    c.in-Some-Some.ensures.ends c.in-Some-Some.ensures'.ends (lt_fails _ _ (sym c.is_below.ensures ∙ c.if-is_below.false)) (lt_fails _ _ (sym c.is_below-else-is_below.ensures ∙ c.if-is_below-2.false)) c.loop-our.invariant

pub loop-our-smaller-then-is_below : goal.loop-our-smaller-then-is_below
loop-our-smaller-then-is_below g c =
    shorter_left (lengths_left c.advance.new.self) (lengths_left c.loop-our.ours) (lengths_left c.loop-our.theirs)
    (fewer_below g.V.PartialEq.eq _ _ c.loop-our.ours c.advance.new.self _ _ c.range.ensures.canonical c.in-Some-Some.ensures.ends
    (lt_holds _ _ (sym c.is_below.ensures ∙ c.if-is_below.true)) c.sub_one.ensures c.advance.ensures)

pub loop-our-preserved-then-is_below : goal.loop-our-preserved-then-is_below
loop-our-preserved-then-is_below g c =
    left_passed g.V.PartialEq.eq g.W.PartialEq.eq _ _ _ _ c.loop-our.ours c.loop-our.theirs c.range.ensures.canonical c.range-in-loop-our.ensures.canonical
    c.in-Some-Some.ensures.ends c.in-Some-Some.ensures'.ends c.advance.new.self _ c.sub_one.ensures c.advance.ensures c.loop-our.invariant

pub loop-our-smaller : goal.loop-our-smaller
loop-our-smaller g c =
    shorter_right (lengths_left c.advance-then-is_below-2.new.self) (lengths_left c.loop-our.theirs) (lengths_left c.loop-our.ours)
    (fewer_below g.W.PartialEq.eq _ _ c.loop-our.theirs c.advance-then-is_below-2.new.self _ _ c.range-in-loop-our.ensures.canonical c.in-Some-Some.ensures'.ends
    (lt_holds _ _ (sym c.is_below-else-is_below.ensures ∙ c.if-is_below-2.true)) c.sub_one-then-is_below-2.ensures c.advance-then-is_below-2.ensures)

pub loop-our-preserved : goal.loop-our-preserved
loop-our-preserved g c =
    right_passed g.V.PartialEq.eq g.W.PartialEq.eq _ _ _ _ c.loop-our.ours c.loop-our.theirs c.range.ensures.canonical c.range-in-loop-our.ensures.canonical
    c.in-Some-Some.ensures.ends c.in-Some-Some.ensures'.ends c.advance-then-is_below-2.new.self _ c.sub_one-then-is_below-2.ensures c.advance-then-is_below-2.ensures c.loop-our.invariant

pub returns-in_default : goal.returns-in_default
returns-in_default g c =
    nothing_left _ _ (inr (sym (ap (option_map (shown_ends g.T.Integer.rank)) c.in_default.is-1) ∙ c.range-in-loop-our.ensures.ends)) c.loop-our.invariant

pub returns-in_default-2 : goal.returns-in_default-2
returns-in_default-2 g c =
    nothing_left _ _ (inl (sym (ap (option_map (shown_ends g.T.Integer.rank)) c.in_default.is-0) ∙ c.range.ensures.ends)) c.loop-our.invariant

pub sub_one-requires : goal.sub_one-requires
sub_one-requires g c =
    let below = lt_holds (g.T.Integer.rank c.in-Some-Some.our.end) (g.T.Integer.rank c.in-Some-Some.their.start) (sym c.is_below.ensures ∙ c.if-is_below.true) in
    record { above = omega (arith, ints, c.in_hand.ensures.from, below) }

pub sub_one-requires-then-is_below-2 : goal.sub_one-requires-then-is_below-2
sub_one-requires-then-is_below-2 g c =
    let below = lt_holds (g.T.Integer.rank c.in-Some-Some.their.end) (g.T.Integer.rank c.in-Some-Some.our.start) (sym c.is_below-else-is_below.ensures ∙ c.if-is_below-2.true) in
    record { above = omega (arith, ints, c.in_hand-then-is_below-2.ensures.from, below) }
