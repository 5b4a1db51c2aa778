use Rattle.blaze_streams.proofs.Words.{◌-◌, arith, slice_set, sym, ap, ◌∙◌, ◌+ℤ◌, pos, set-get_or, int_eq, range_inclusive_end, vec_len, vec_items, and_left, and_right, and_both, entry, shown_range, has_last, pushed_joined, pushed_apart}
use Rattle.blaze_streams.proofs.merge.push.lengthen_last.Goals as goal
use Rattle.blaze_streams.proofs.merge.push.lengthen_last.Goals.{then-not-is_next-via-then-not-is_next, then-not-is_next-via-else-not-is_next+then-not-value_eq}

pub returns : goal.returns
returns g c =
    let rank = g.T.Integer.rank in
    let shown = g.VC.ValueCarrier.shown in
    let n = vec_len c.args.out.now - 1 in
    let has = has_last c.args.out.now.items n c.in-Some.last.now (omega (arith, c.args.out.now.ok.0, c.in-Some.ensures.item.3.0)) c.in-Some.ensures.value in
    pushed_joined (shown_range rank shown) g.VC.Value.PartialEq.eq c.args.out.now.items n c.in-Some.last.now (entry (rank c.args.start) (rank c.args.end) (shown c.args.carrier.now)) has
    (c.new-last.result, c.in-Some.last.now.1)
    (and_both (int_eq (rank c.args.start) (rank (range_inclusive_end c.in-Some.last.now.0) +ℤ pos 1)) _ (cc (c.is_next.ensures, c.end.ensures, c.if-not-is_next.false)) (sym c.if-not-value_eq.false ∙ c.value_eq.ensures))
    (cc (c.new-last.ensures.start, c.new-last.ensures.end, c.start.ensures))

pub returns-then-not-is_next : goal.returns-then-not-is_next
returns-then-not-is_next g c =
    let rank = g.T.Integer.rank in
    let shown = g.VC.ValueCarrier.shown in
    let n = vec_len c.args.out.now - 1 in
    let has = has_last c.args.out.now.items n c.in-Some.last.now (omega (arith, c.args.out.now.ok.0, c.in-Some.ensures.item.3.0)) c.in-Some.ensures.value in
    let same = ap (λ x. slice_set c.args.out.now.items n x) c.in-Some.ensures.value ∙ set-get_or c.args.out.now.items n c.in-Some.last.now in
    let apart = pushed_apart (shown_range rank shown) g.VC.Value.PartialEq.eq c.args.out.now.items n c.in-Some.last.now (entry (rank c.args.start) (rank c.args.end) (shown c.args.carrier.now)) has in
    elim c.then-not-is_next.branch [
      | then-not-is_next-via-then-not-is_next w ↦
          (ap vec_items w.out-is ∙ same, apart (and_left (int_eq (rank c.args.start) (rank (range_inclusive_end c.in-Some.last.now.0) +ℤ pos 1)) _ (cc (c.is_next.ensures, c.end.ensures, w.if-not-is_next.true))))
      | then-not-is_next-via-else-not-is_next+then-not-value_eq w ↦
          (ap vec_items w.out-is ∙ same, apart (and_right _ _ (sym w.value_eq.ensures ∙ w.if-not-value_eq.true)))
    ]
