use Rattle.range_map_blaze.proofs.Words.{◌+ℤ◌, pos, ap, refl, sym, subst, arith, ints, shown_option, rank_or_end, TakesValue, KeepsValue}
use Rattle.range_map_blaze.proofs.Edits.Pieces.{by_at_most, by_not_at_most, gap_by_call, gap_not_asked}
use Rattle.range_map_blaze.proofs.updates.Asking.ask_up_to.Goals as goal

pub ask-requires : goal.ask-requires
ask-requires g c =
    let rank = g.T.Integer.rank in
    let first = ap (rank_or_end rank g.T.Integer.high) c.in-Some.is in
    let there = by_at_most (rank c.in-Some.first) (rank c.args.end) c.is_at_most.result c.is_at_most.ensures c.if-is_at_most.true in
    record { callable = subst (TakesValue (λ a. shown_option (λ v. v.now) a.0) g.F.FnMut c.args.self.now.f) (sym c.as_ref.ensures.value) (c.requires.callable (omega (arith, ints, first, there))) }

pub returns-then-is_at_most-clause-asked : goal.returns-then-is_at_most-clause-asked
returns-then-is_at_most-clause-asked g c =
    let rank = g.T.Integer.rank in
    let n = rank_or_end rank g.T.Integer.high c.args.next in
    let first = ap (rank_or_end rank g.T.Integer.high) c.in-Some.is in
    let there = by_at_most (rank c.in-Some.first) (rank c.args.end) c.is_at_most.result c.is_at_most.ensures c.if-is_at_most.true in
    gap_by_call (λ a. shown_option (λ v. v.now) a.0) g.F.FnMut g.V.PartialEq.eq _ n (rank c.in-Some.first) (rank c.args.end) (rank c.args.end +ℤ pos 1) _ _ _ _ first there refl (_, c.as_ref.ensures.value, c.ask.ensures.asked)

pub returns-then-is_at_most-clause-steady : goal.returns-then-is_at_most-clause-steady
returns-then-is_at_most-clause-steady g c = λ keeps.
    let rank = g.T.Integer.rank in
    let first = ap (rank_or_end rank g.T.Integer.high) c.in-Some.is in
    let there = by_at_most (rank c.in-Some.first) (rank c.args.end) c.is_at_most.result c.is_at_most.ensures c.if-is_at_most.true in
    c.ask.ensures.steady (subst (KeepsValue (λ a. shown_option (λ v. v.now) a.0) g.F.FnMut g.V.PartialEq.eq c.args.self.now.f) (sym c.as_ref.ensures.value) (keeps (omega (arith, ints, first, there))))

pub returns-else-is_at_most-clause-asked : goal.returns-else-is_at_most-clause-asked
returns-else-is_at_most-clause-asked g c =
    let rank = g.T.Integer.rank in
    let n = rank_or_end rank g.T.Integer.high c.args.next in
    let first = ap (rank_or_end rank g.T.Integer.high) c.in-Some.is in
    let above = by_not_at_most (rank c.in-Some.first) (rank c.args.end) c.is_at_most.result c.is_at_most.ensures c.if-is_at_most.false in
    gap_not_asked (λ a. shown_option (λ v. v.now) a.0) g.F.FnMut g.V.PartialEq.eq n (rank c.args.end +ℤ pos 1) _ _ (omega (arith, ints, first, above))

pub returns-in_default-clause-asked : goal.returns-in_default-clause-asked
returns-in_default-clause-asked g c =
    let rank = g.T.Integer.rank in
    let n = rank_or_end rank g.T.Integer.high c.args.next in
    let past = ap (rank_or_end rank g.T.Integer.high) c.in_default.is in
    gap_not_asked (λ a. shown_option (λ v. v.now) a.0) g.F.FnMut g.V.PartialEq.eq n (rank c.args.end +ℤ pos 1) _ _ (omega (arith, ints, past, c.in_hand.ensures.to))
