use Rattle.std.proofs.Common.{◌≡◌, ◌-◌, length, ap, subst, ◌∙◌, arith, slice_set, Some}
use Rattle.std.proofs.lemmas.List.{length-map, length-set, set-set}
use Rattle.blaze_entries.specs.Entries.{entry, shown_entry, SameOption, shown_list}
use Rattle.blaze_table.specs.PairValue.{moved_to, value_in}
use Rattle.blaze_table.specs.declared.sweep.pair_value.PairValue.TheVariants.{Moved}
use Rattle.blaze_table.proofs.Sweeping.PairValues.{within_held, glue_some}
use Rattle.blaze_table.proofs.sweep.pair_value.put_piece.Goals as goal

pub overflow_sub-len : goal.overflow_sub-len
overflow_sub-len g c =
    let rank = g.T.Integer.rank in
    let some = glue_some g.V.PartialEq.eq (shown_list rank c.args.entries.now.items) (entry (rank c.args.start) (rank c.args.end) c.in_ok-value.value) in
    let long = ap length c.in_ok-push_entry.ensures.ok in
    omega (arith, some, long, c.len.ensures, c.push_entry.new.out.ok.0, length-map c.push_entry.new.out.items (shown_entry rank (λ v. v)))

pub index_mut-requires : goal.index_mut-requires
index_mut-requires g c =
    let l = within_held (shown_list g.T.Integer.rank c.args.entries.now.items) c.args.values.now.items c.args.index c.requires.there in
    let same = ap length c.in_ok-value.ensures.values in
    omega (arith, l, same, c.value_at.new.values.ok.0, length-set c.args.values.now.items c.args.index (Moved 0))

pub returns : goal.returns
returns g c =
    let rank = g.T.Integer.rank in
    let values = c.args.values.now.items in
    let n : c.len.result - 1 ≡ length (shown_list rank c.push_entry.new.out.items) - 1 = omega (arith, c.len.ensures, c.push_entry.new.out.ok.0, length-map c.push_entry.new.out.items (shown_entry rank (λ v. v))) in
    record {
      value = c.in_ok-value.value;
      alike = subst (λ xs. SameOption g.V.PartialEq.eq (Some c.in_ok-value.value) (value_in (shown_list rank xs) values c.args.index)) c.deref.ensures.value c.in_ok-value.ensures.value;
      glued = c.in_ok-push_entry.ensures.ok;
      moved = ap (λ l. slice_set l c.args.index (Moved (c.len.result - 1))) c.in_ok-value.ensures.values ∙ set-set values c.args.index (Moved 0) (Moved (c.len.result - 1)) ∙ ap (λ i. moved_to i values c.args.index) n;
    }
