use Rattle.blaze_table.proofs.Words.{if_err, ◌-◌, length, Some, subst, arith, ints, slice_get, IsRangeCloned, CountedEntries, IsKeyTaken}
use Rattle.blaze_table.proofs.Cuts.Backs.{last_key, last_has}
use Rattle.blaze_table.proofs.Cuts.CutEdits.{key_fits, key_cut}
use Rattle.blaze_table.proofs.Cuts.Ends.{last_holder, end_among}
use Rattle.blaze_table.proofs.cut.cut_last.Goals as goal

pub returns-in_err-last-clause-refused : goal.returns-in_err-last-clause-refused
returns-in_err-last-clause-refused g c =
    let es = c.args.entries.now.entries in
    if_err c.from_residual.result (end_among g.V.PartialEq.eq g.met.V.Eq.laws g.T.Integer.low g.T.Integer.high es c.in_hand.ensures c.requires.table.canonical (λ x. x.1) (slice_get es (length es - 1)) (last_holder g.V.PartialEq.eq es c.requires.table.canonical) c.in_err-last.ensures.refused)

pub minus-new_len-requires : goal.minus-new_len-requires
minus-new_len-requires g c = record {
  enough =
      let rank = g.T.Integer.rank in
      let eq = g.V.PartialEq.eq in
      let low = g.T.Integer.low in
      let high = g.T.Integer.high in
      let es = c.args.entries.now.entries in
      let canonical = c.requires.table.canonical in
      let looked = subst (IsRangeCloned rank g.V.Clone.is_clone (slice_get es (length es - 1))) c.in-Some.is c.in_ok-last.ensures.held in
      let h = last_has rank g.V.Clone.is_clone c.in-Some.entry es looked eq g.met.V.Eq.laws low high c.in_hand.ensures canonical in
      omega (arith, ints, key_fits eq g.met.V.Eq.laws _ low high es c.in_hand.ensures canonical h _ c.requires.table, c.one.ensures);
}

pub returns-clause-cut : goal.returns-clause-cut
returns-clause-cut g c =
    let rank = g.T.Integer.rank in
    let eq = g.V.PartialEq.eq in
    let low = g.T.Integer.low in
    let high = g.T.Integer.high in
    let es = c.args.entries.now.entries in
    let canonical = c.requires.table.canonical in
    let looked = subst (IsRangeCloned rank g.V.Clone.is_clone (slice_get es (length es - 1))) c.in-Some.is c.in_ok-last.ensures.held in
    record {
      last = last_key rank g.V.Clone.is_clone c.in-Some.entry es looked;
      cut = key_cut eq g.met.V.Eq.laws _ low high es c.in_hand.ensures canonical (last_has rank g.V.Clone.is_clone c.in-Some.entry es looked eq g.met.V.Eq.laws low high c.in_hand.ensures canonical) _ _ _ _ c.requires.table
          (omega (arith, ints, c.minus-new_len.ensures.difference, c.one.ensures))
          (subst (λ (s : CountedEntries g.row.V.Denot). IsKeyTaken eq (rank c.in-Some.entry.end) (Some c.cut_back-value.result) s.entries c.cut_back-value.new.entries.entries) c.last_range_cloned.ensures.looked c.cut_back-value.ensures.cut);
    }
