use Rattle.range_map_multi.proofs.Words.{◌∙◌, length, map, ap, arith, is_some, list_all, length-map, shown_segment, shown_full_row, values_at_positions}
use Rattle.range_map_multi.proofs.AnsweredRows.{asked_none, asked_all, asked_count, asked_less, asked_takes, asked_more, asked_not}
use Rattle.range_map_multi.proofs.Pickings.{picked_full, asked_full, asked_not_full, full_has_some, row_of_some}
use Rattle.range_map_multi.proofs.row_answers.inner_answers_of_some.Goals as goal

pub loop-out-init : goal.loop-out-init
loop-out-init g c =
    let values = map (λ v. map g.S.Shows.shown v.items) c.args.lists.now in
    rw c.new-out.ensures.items
    (asked_none (λ a. shown_full_row g.S.Shows.shown a.0.now) g.F.FnMut g.S.Value.PartialEq.eq g.W.PartialEq.eq g.T.Integer.low g.T.Integer.high (list_all is_some) c.args.f values _
    g.met.S.Value.Eq.laws c.args.cursors.now c.requires.placed c.requires.range_maps
    (λ k. full_has_some _ (row_of_some values c.args.cursors.now _ k c.requires.placed c.requires.some)))

pub loop-out-smaller : goal.loop-out-smaller
loop-out-smaller g c =
    asked_less _ _ _ _ _ _ _ _ _ _ c.loop-out.cursors c.next_segment.new.lists c.loop-out.f _ (shown_segment g.T.Integer.rank c.in-Some.segment) c.loop-out.invariant (rw c.in-Some.is at c.in_ok-segment.ensures.some)

pub fill_row-requires : goal.fill_row-requires
fill_row-requires g c =
    let count = asked_count _ _ _ _ _ _ _ _ _ _ c.loop-out.cursors c.next_segment.new.lists c.loop-out.f _ (shown_segment g.T.Integer.rank c.in-Some.segment) c.loop-out.invariant (rw c.in-Some.is at c.in_ok-segment.ensures.some) in
    omega (arith, count, length-map c.args.lists.now (λ v. map g.S.Shows.shown v.items), ap length c.deref.ensures.value)

pub loop-out-smaller-then-not-branch : goal.loop-out-smaller-then-not-branch
loop-out-smaller-then-not-branch g c =
    asked_less _ _ _ _ _ _ _ _ _ _ c.loop-out.cursors c.next_segment.new.lists c.loop-out.f _ (shown_segment g.T.Integer.rank c.in-Some.segment) c.loop-out.invariant (rw c.in-Some.is at c.in_ok-segment.ensures.some)

pub loop-out-preserved-then-not-branch : goal.loop-out-preserved-then-not-branch
loop-out-preserved-then-not-branch g c =
    let shown = g.S.Shows.shown in
    let segment = shown_segment g.T.Integer.rank c.in-Some.segment in
    let next = rw c.in-Some.is at c.in_ok-segment.ensures.some in
    let found = c.in_ok-fill_row.ensures ∙ ap (values_at_positions _) c.deref.ensures.value in
    let not_full = rw c.if-not-branch.true at c.in_ok-fill_full_row.ensures in
    asked_not _ _ _ _ _ _ _ _ _ _ c.loop-out.cursors c.next_segment.new.lists c.loop-out.f _ segment c.loop-out.invariant next (asked_not_full shown (λ v. v.items) c.args.lists.now segment.value c.deref-in-Some.result.now not_full (c.deref-in-Some.ensures.value ∙ found))

pub f-answer-requires : goal.f-answer-requires
f-answer-requires g c =
    let shown = g.S.Shows.shown in
    let segment = shown_segment g.T.Integer.rank c.in-Some.segment in
    let next = rw c.in-Some.is at c.in_ok-segment.ensures.some in
    let found = c.in_ok-fill_row.ensures ∙ ap (values_at_positions _) c.deref.ensures.value in
    let full = rw c.if-not-branch.false at c.in_ok-fill_full_row.ensures in
    let row = c.deref-in-Some.ensures.value ∙ found in
    let asked = asked_full shown (λ v. v.items) c.args.lists.now segment.value c.fill_full_row.new.row.items c.deref-in-Some.result.now full row in
    let is = ap (shown_full_row shown) c.deref-in-Some-2.ensures.value ∙ picked_full shown (λ v. v.items) c.args.lists.now segment.value c.fill_full_row.new.row.items c.deref-in-Some.result.now full row in
    asked_takes _ _ _ _ _ _ _ _ _ _ c.loop-out.cursors c.next_segment.new.lists c.loop-out.f _ segment c.loop-out.invariant next c.requires.callable asked _ is

pub loop-out-preserved : goal.loop-out-preserved
loop-out-preserved g c =
    let shown = g.S.Shows.shown in
    let segment = shown_segment g.T.Integer.rank c.in-Some.segment in
    let next = rw c.in-Some.is at c.in_ok-segment.ensures.some in
    let found = c.in_ok-fill_row.ensures ∙ ap (values_at_positions _) c.deref.ensures.value in
    let full = rw c.if-not-branch.false at c.in_ok-fill_full_row.ensures in
    let row = c.deref-in-Some.ensures.value ∙ found in
    let asked = asked_full shown (λ v. v.items) c.args.lists.now segment.value c.fill_full_row.new.row.items c.deref-in-Some.result.now full row in
    let is = ap (shown_full_row shown) c.deref-in-Some-2.ensures.value ∙ picked_full shown (λ v. v.items) c.args.lists.now segment.value c.fill_full_row.new.row.items c.deref-in-Some.result.now full row in
    asked_more _ _ _ _ _ _ _ _ _ _ c.loop-out.cursors c.next_segment.new.lists c.loop-out.f _ segment c.loop-out.invariant next g.met.W.Eq.laws _ _ c.f-answer.result asked
    (record { arguments = _; shown = is; called = c.f-answer.ensures }) c.in_ok-push_joined.ensures.ok

pub new-requires : goal.new-requires
new-requires g c = record { range_map = (asked_all _ _ _ _ _ _ _ _ _ _ g.met.W.Eq.laws c.loop-out.cursors c.loop-out.f _ c.loop-out.invariant (rw c.in_default.is at c.in_ok-segment.ensures.none)).answered.range_map }

pub returns : goal.returns
returns g c =
    rw c.new.ensures (asked_all _ _ _ _ _ _ _ _ _ _ g.met.W.Eq.laws c.loop-out.cursors c.loop-out.f _ c.loop-out.invariant (rw c.in_default.is at c.in_ok-segment.ensures.none))
