use Rattle.range_map_blaze.proofs.Words.{ap, sym, subst, arith, ints, shown_option, rank_or_end, TakesValue, KeepsValue}
use Rattle.range_map_blaze.proofs.Edits.Pieces.{by_below, by_not_below, gap_asked, gap_not_asked}
use Rattle.range_map_blaze.proofs.updates.Asking.ask_below.Goals as goal

pub ask-requires : goal.ask-requires
ask-requires g c =
    let rank = g.T.Integer.rank in
    let first = ap (rank_or_end rank g.T.Integer.high) c.in-Some.is in
    let there = by_below (rank c.in-Some.first) (rank c.args.start) c.is_below.result c.is_below.ensures c.if-is_below.true in
    record { callable = subst (TakesValue (λ a. shown_option (λ v. v.now) a.0) g.F.FnMut c.args.self.now.f) (sym c.as_ref.ensures.value) (c.requires.callable (omega (arith, ints, first, there))) }

pub returns-then-is_below-clause-asked : goal.returns-then-is_below-clause-asked
returns-then-is_below-clause-asked g c =
    let rank = g.T.Integer.rank in
    let n = rank_or_end rank g.T.Integer.high c.args.next in
    let first = ap (rank_or_end rank g.T.Integer.high) c.in-Some.is in
    let there = by_below (rank c.in-Some.first) (rank c.args.start) c.is_below.result c.is_below.ensures c.if-is_below.true in
    gap_asked (λ a. shown_option (λ v. v.now) a.0) g.F.FnMut g.V.PartialEq.eq c.ask.result n (rank c.in-Some.first) (rank c.sub_one.result) (rank c.args.start) _ _ _ _ _ first (omega (arith, ints, there, c.sub_one.ensures)) c.sub_one.ensures c.as_ref.ensures.value c.ask.ensures.asked

pub returns-then-is_below-clause-steady : goal.returns-then-is_below-clause-steady
returns-then-is_below-clause-steady g c = λ keeps.
    let rank = g.T.Integer.rank in
    let first = ap (rank_or_end rank g.T.Integer.high) c.in-Some.is in
    let there = by_below (rank c.in-Some.first) (rank c.args.start) c.is_below.result c.is_below.ensures c.if-is_below.true in
    c.ask.ensures.steady (subst (KeepsValue (λ a. shown_option (λ v. v.now) a.0) g.F.FnMut g.V.PartialEq.eq c.args.self.now.f) (sym c.as_ref.ensures.value) (keeps (omega (arith, ints, first, there))))

pub returns-else-is_below-clause-asked : goal.returns-else-is_below-clause-asked
returns-else-is_below-clause-asked g c =
    let rank = g.T.Integer.rank in
    let n = rank_or_end rank g.T.Integer.high c.args.next in
    let first = ap (rank_or_end rank g.T.Integer.high) c.in-Some.is in
    let above = by_not_below (rank c.in-Some.first) (rank c.args.start) c.is_below.result c.is_below.ensures c.if-is_below.false in
    gap_not_asked (λ a. shown_option (λ v. v.now) a.0) g.F.FnMut g.V.PartialEq.eq n (rank c.args.start) _ _ (omega (arith, ints, first, above))

pub returns-in_default-clause-asked : goal.returns-in_default-clause-asked
returns-in_default-clause-asked g c =
    let rank = g.T.Integer.rank in
    let n = rank_or_end rank g.T.Integer.high c.args.next in
    let past = ap (rank_or_end rank g.T.Integer.high) c.in_default.is in
    gap_not_asked (λ a. shown_option (λ v. v.now) a.0) g.F.FnMut g.V.PartialEq.eq n (rank c.args.start) _ _ (omega (arith, ints, past, c.in_hand.ensures.to))
