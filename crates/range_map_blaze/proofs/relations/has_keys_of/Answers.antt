use Rattle.range_map_blaze.proofs.Words.{arith, ints, option_map, ◌∙◌, ap, sym, lt_fails, lt_holds, shown_ends, lengths_left}
use Rattle.range_map_blaze.proofs.SharedKeys.{fewer_below, fewer_left, nothing_asked, nothing_covers, own_passed, shorter_left, shorter_right, starts_before, their_passed}
use Rattle.range_map_blaze.proofs.relations.has_keys_of.Goals as goal

pub returns-in_default-range : goal.returns-in_default-range
returns-in_default-range g c =
    nothing_covers g.V.PartialEq.eq g.W.PartialEq.eq _ _ c.loop-their.ours c.loop-their.theirs c.range-in-Some.ensures.canonical c.range.ensures.canonical c.in-Some.ensures.ends
    (sym (ap (option_map (shown_ends g.T.Integer.rank)) c.in_default-range.is) ∙ c.range-in-Some.ensures.ends) c.loop-their.invariant

pub returns-then-is_below : goal.returns-then-is_below
returns-then-is_below g c =
    starts_before g.V.PartialEq.eq g.W.PartialEq.eq _ _ c.loop-their.ours c.loop-their.theirs c.range-in-Some.ensures.canonical c.range.ensures.canonical c.in-Some.ensures.ends
    _ _ c.in-Some-range.ensures.ends (lt_holds _ _ (sym c.is_below.ensures ∙ c.if-is_below.true)) c.loop-their.invariant

pub loop-their-smaller-then-is_below-2 : goal.loop-their-smaller-then-is_below-2
loop-their-smaller-then-is_below-2 g c =
    shorter_left (lengths_left c.advance.new.self) (lengths_left c.loop-their.ours) (lengths_left c.loop-their.theirs)
    (fewer_below g.V.PartialEq.eq _ _ c.loop-their.ours c.advance.new.self _ _ c.range-in-Some.ensures.canonical c.in-Some-range.ensures.ends
    (lt_holds _ _ (sym c.is_below-in-Some.ensures ∙ c.if-is_below-2.true)) c.sub_one.ensures c.advance.ensures)

pub loop-their-preserved-then-is_below-2 : goal.loop-their-preserved-then-is_below-2
loop-their-preserved-then-is_below-2 g c =
    own_passed g.V.PartialEq.eq g.W.PartialEq.eq _ _ c.loop-their.ours c.loop-their.theirs c.range-in-Some.ensures.canonical c.range.ensures.canonical c.in-Some.ensures.ends
    c.advance.new.self _ c.sub_one.ensures c.advance.ensures c.loop-their.invariant

pub loop-their-smaller : goal.loop-their-smaller
loop-their-smaller g c =
    shorter_right (lengths_left c.advance-else-is_below-2.new.self) (lengths_left c.loop-their.theirs) (lengths_left c.loop-their.ours)
    (fewer_left g.W.PartialEq.eq _ _ c.loop-their.theirs c.advance-else-is_below-2.new.self _ c.range.ensures.canonical c.in-Some.ensures.ends
    (lt_fails _ _ (sym c.is_below-in-Some.ensures ∙ c.if-is_below-2.false)) c.advance-else-is_below-2.ensures)

pub loop-their-preserved : goal.loop-their-preserved
loop-their-preserved g c =
    their_passed g.V.PartialEq.eq g.W.PartialEq.eq _ _ c.loop-their.ours c.loop-their.theirs c.range-in-Some.ensures.canonical c.range.ensures.canonical c.in-Some.ensures.ends
    _ _ c.in-Some-range.ensures.ends c.advance-else-is_below-2.new.self (lt_fails _ _ (sym c.is_below.ensures ∙ c.if-is_below.false)) c.advance-else-is_below-2.ensures c.loop-their.invariant

pub loop-their-init : goal.loop-their-init
loop-their-init g c = rw (c.new-ours.ensures ∙ c.new.ensures, c.new-theirs.ensures ∙ c.new-2.ensures) ((λ has. has), (λ has. has))

pub returns : goal.returns
returns g c =
    nothing_asked _ _ (sym (ap (option_map (shown_ends g.T.Integer.rank)) c.in_default.is) ∙ c.range.ensures.ends) c.loop-their.invariant

pub sub_one-requires : goal.sub_one-requires
sub_one-requires g c =
    let below = lt_holds (g.T.Integer.rank c.in-Some-range.our.end) (g.T.Integer.rank c.in-Some.their.start) (sym c.is_below-in-Some.ensures ∙ c.if-is_below-2.true) in
    record { above = omega (arith, ints, c.in_hand.ensures.from, below) }
