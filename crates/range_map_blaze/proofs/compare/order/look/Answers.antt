use Rattle.range_map_blaze.proofs.Words.{◌≡◌, ◌∙◌, ◌≤ℤ◌, List, sym, ap, subst, Entry, shown_range_entry, int_min, after, IsComparedOn}
use Rattle.range_map_blaze.proofs.Order.PairOrder.{not_Equal, is_Equal, both_at_end, left_at_end, other_at_end, decided_at_first, compared_after, reaches_first, earlier_left, earlier_right}
use Rattle.range_map_blaze.proofs.compare.order.look.Goals as goal

pub returns-in-None-first-clause-answer : goal.returns-in-None-first-clause-answer
returns-in-None-first-clause-answer g c = both_at_end g.V.PartialEq.eq g.V.Ord.cmp c.args.left.now c.args.other.now c.in-None.ensures.first c.in-None-first.ensures.first

pub returns-in-Some-first-clause-answer : goal.returns-in-Some-first-clause-answer
returns-in-Some-first-clause-answer g c =
    let rank = g.T.Integer.rank in
    let f : Entry g.row.V.Denot = shown_range_entry rank (λ v. v.now) c.in-Some-first.field-0 in
    left_at_end g.V.PartialEq.eq g.V.Ord.cmp c.args.left.now c.args.other.now f c.in-None.ensures.first c.in-Some-first.ensures.first c.in-Some-first.ensures.canonical

pub returns-in-None-first-2-clause-answer : goal.returns-in-None-first-2-clause-answer
returns-in-None-first-2-clause-answer g c =
    let rank = g.T.Integer.rank in
    let e : Entry g.row.V.Denot = shown_range_entry rank (λ v. v.now) c.in-Some.first in
    other_at_end g.V.PartialEq.eq g.V.Ord.cmp c.args.left.now c.args.other.now e c.in-Some.ensures.first c.in-None-first-2.ensures.first c.in-Some.ensures.canonical

pub returns-then-is_ne-clause-answer : goal.returns-then-is_ne-clause-answer
returns-then-is_ne-clause-answer g c =
    let rank = g.T.Integer.rank in
    let e : Entry g.row.V.Denot = shown_range_entry rank (λ v. v.now) c.in-Some.first in
    let f : Entry g.row.V.Denot = shown_range_entry rank (λ v. v.now) c.in-Some-first-2.other_first in
    let order = c.compare_first-order.result.0 in
    decided_at_first g.V.PartialEq.eq g.V.Ord.cmp c.args.left.now c.args.other.now e f c.in-Some.ensures.first c.in-Some-first-2.ensures.first c.in-Some.ensures.canonical c.in-Some-first-2.ensures.canonical order c.compare_first-order.ensures.order
    (not_Equal order c.is_ne.result c.is_ne.ensures c.if-is_ne.true)

pub advance-requires : goal.advance-requires
advance-requires g c =
    let rank = g.T.Integer.rank in
    let e : Entry g.row.V.Denot = shown_range_entry rank (λ v. v.now) c.in-Some.first in
    let f : Entry g.row.V.Denot = shown_range_entry rank (λ v. v.now) c.in-Some-first-2.other_first in
    reaches_first c.args.left.now e (rank c.compare_first-order.result.1) c.in-Some.ensures.first
    (subst (λ m. m ≤ℤ e.hi) (sym c.compare_first-order.ensures.end) (earlier_left e.hi f.hi))

pub advance-requires-in-Some-first-2 : goal.advance-requires-in-Some-first-2
advance-requires-in-Some-first-2 g c =
    let rank = g.T.Integer.rank in
    let e : Entry g.row.V.Denot = shown_range_entry rank (λ v. v.now) c.in-Some.first in
    let f : Entry g.row.V.Denot = shown_range_entry rank (λ v. v.now) c.in-Some-first-2.other_first in
    reaches_first c.args.other.now f (rank c.compare_first-order.result.1) c.in-Some-first-2.ensures.first
    (subst (λ m. m ≤ℤ f.hi) (sym c.compare_first-order.ensures.end) (earlier_right e.hi f.hi))

pub returns-else-is_ne-clause-on : goal.returns-else-is_ne-clause-on
returns-else-is_ne-clause-on g c =
    let rank = g.T.Integer.rank in
    let L : List (Entry g.row.V.Denot) = c.args.left.now in
    let M : List (Entry g.row.V.Denot) = c.args.other.now in
    let e : Entry g.row.V.Denot = shown_range_entry rank (λ v. v.now) c.in-Some.first in
    let f : Entry g.row.V.Denot = shown_range_entry rank (λ v. v.now) c.in-Some-first-2.other_first in
    let tied = sym c.compare_first-order.ensures.order ∙ is_Equal c.compare_first-order.result.0 c.is_ne.result c.is_ne.ensures c.if-is_ne.false in
    let on = compared_after g.V.PartialEq.eq g.V.Ord.cmp L M e f c.in-Some.ensures.first c.in-Some-first-2.ensures.first c.in-Some.ensures.canonical c.in-Some-first-2.ensures.canonical tied in
    let left : after (int_min f.hi e.hi) L ≡ c.advance.new.self = ap (λ m. after m L) (sym c.compare_first-order.ensures.end) ∙ sym c.advance.ensures in
    let other : after (int_min f.hi e.hi) M ≡ c.advance-in-Some-first-2.new.self = ap (λ m. after m M) (sym c.compare_first-order.ensures.end) ∙ sym c.advance-in-Some-first-2.ensures in
    subst (λ (l : List (Entry g.row.V.Denot)). IsComparedOn g.V.Ord.cmp L M l c.advance-in-Some-first-2.new.self) left
    (subst (λ (m : List (Entry g.row.V.Denot)). IsComparedOn g.V.Ord.cmp L M (after (int_min f.hi e.hi) L) m) other on)
