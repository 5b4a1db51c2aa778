use Rattle.blaze_table.proofs.Words.{◌≡◌, ◌-◌, arith, slice_set, sym, ap, ◌∙◌, ◌+ℤ◌, pos, Bool, true, false, refl, not, set-get_or, int_eq, vec_len, vec_items, and_left, and_right, entry, shown_entry, and_both, has_last, pushed_joined, pushed_apart}
use Rattle.blaze_table.proofs.sweep.push.lengthen_entry.Goals as goal
use Rattle.blaze_table.proofs.sweep.push.lengthen_entry.Goals.{then-not-is_next-via-then-not-is_next, then-not-is_next-via-else-not-is_next+then-ne}

holds : (b : Bool) → false ≡ not b → true ≡ b
holds true h = refl
holds false h = sym h

fails : (b : Bool) → true ≡ not b → b ≡ false
fails true h = cc
fails false h = refl

pub returns : goal.returns
returns g c =
    let rank = g.T.Integer.rank in
    let n = vec_len c.args.out.now - 1 in
    let last = c.in-Some.last.now in
    let has = has_last c.args.out.now.items n last (omega (arith, c.args.out.now.ok.0, c.in-Some.ensures.item.3.0)) c.in-Some.ensures.value in
    pushed_joined (shown_entry rank (λ v. v)) g.V.PartialEq.eq c.args.out.now.items n last (entry (rank c.args.start) (rank c.args.end) c.args.value.now) has
    (last.0, c.args.end, last.2)
    (and_both (int_eq (rank c.args.start) (rank last.1 +ℤ pos 1)) _ (sym c.if-not-is_next.false ∙ c.is_next.ensures) (holds _ (sym c.if-ne.false ∙ c.ne.ensures)))
    (λ i. entry (rank last.0) (rank c.args.end) last.2)

pub returns-then-not-is_next : goal.returns-then-not-is_next
returns-then-not-is_next g c =
    let rank = g.T.Integer.rank in
    let n = vec_len c.args.out.now - 1 in
    let last = c.in-Some.last.now in
    let has = has_last c.args.out.now.items n last (omega (arith, c.args.out.now.ok.0, c.in-Some.ensures.item.3.0)) c.in-Some.ensures.value in
    let same = ap (λ x. slice_set c.args.out.now.items n x) c.in-Some.ensures.value ∙ set-get_or c.args.out.now.items n last in
    let apart = pushed_apart (shown_entry rank (λ v. v)) g.V.PartialEq.eq c.args.out.now.items n last (entry (rank c.args.start) (rank c.args.end) c.args.value.now) has in
    elim c.then-not-is_next.branch [
      | then-not-is_next-via-then-not-is_next w ↦
          (ap vec_items w.out-is ∙ same, apart (and_left (int_eq (rank c.args.start) (rank last.1 +ℤ pos 1)) _ (sym c.is_next.ensures ∙ w.if-not-is_next.true)))
      | then-not-is_next-via-else-not-is_next+then-ne w ↦
          (ap vec_items w.out-is ∙ same, apart (and_right _ _ (fails _ (sym w.if-ne.true ∙ w.ne.ensures))))
    ]
