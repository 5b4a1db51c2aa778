use Rattle.blaze_streams.proofs.Words.{◌-◌, arith, slice_set, sym, ap, ◌∙◌, ◌+ℤ◌, pos, refl, set-get_or, int_eq, vec_len, vec_items, and_left, and_right, and_both, entry, shown_entry, has_last, pushed_joined, pushed_apart}
use Rattle.blaze_streams.proofs.merge.push.lengthen_entry.Goals as goal
use Rattle.blaze_streams.proofs.merge.push.lengthen_entry.Goals.{then-not-is_next-via-then-not-is_next, then-not-is_next-via-else-not-is_next+then-not-has_value}

pub returns : goal.returns
returns g c =
    let rank = g.T.Integer.rank in
    let value = g.VC.ValueCarrier.shown c.args.carrier.now in
    let n = vec_len c.args.out.now - 1 in
    let last = c.in-Some.last.now in
    let has = has_last c.args.out.now.items n last (omega (arith, c.args.out.now.ok.0, c.in-Some.ensures.item.3.0)) c.in-Some.ensures.value in
    pushed_joined (shown_entry rank (λ v. v)) g.VC.Value.PartialEq.eq c.args.out.now.items n last (entry (rank c.args.start) (rank c.args.end) value) has
    (last.0, c.args.end, last.2)
    (and_both (int_eq (rank c.args.start) (rank last.1 +ℤ pos 1)) _ (sym c.if-not-is_next.false ∙ c.is_next.ensures) (sym c.if-not-has_value.false ∙ c.has_value.ensures ∙ g.met.VC.Value.Eq.laws.symm value last.2))
    refl

pub returns-then-not-is_next : goal.returns-then-not-is_next
returns-then-not-is_next g c =
    let rank = g.T.Integer.rank in
    let laws = g.met.VC.Value.Eq.laws in
    let value = g.VC.ValueCarrier.shown c.args.carrier.now in
    let n = vec_len c.args.out.now - 1 in
    let last = c.in-Some.last.now in
    let has = has_last c.args.out.now.items n last (omega (arith, c.args.out.now.ok.0, c.in-Some.ensures.item.3.0)) c.in-Some.ensures.value in
    let same = ap (λ x. slice_set c.args.out.now.items n x) c.in-Some.ensures.value ∙ set-get_or c.args.out.now.items n last in
    let added = λ (v : g.row.VC-Value.Denot). entry (rank c.args.start) (rank c.args.end) v in
    elim c.then-not-is_next.branch [
      | then-not-is_next-via-then-not-is_next w ↦
          (ap vec_items w.out-is ∙ same, λ v alike. pushed_apart (shown_entry rank (λ v. v)) g.VC.Value.PartialEq.eq c.args.out.now.items n last (added v) has (and_left (int_eq (rank c.args.start) (rank last.1 +ℤ pos 1)) _ (sym c.is_next.ensures ∙ w.if-not-is_next.true)))
      | then-not-is_next-via-else-not-is_next+then-not-has_value w ↦
          (ap vec_items w.out-is ∙ same, λ v alike. pushed_apart (shown_entry rank (λ v. v)) g.VC.Value.PartialEq.eq c.args.out.now.items n last (added v) has (and_right _ _ (laws.symm last.2 v ∙ sym (laws.congr value v last.2 alike) ∙ sym w.has_value.ensures ∙ w.if-not-has_value.true)))
    ]
