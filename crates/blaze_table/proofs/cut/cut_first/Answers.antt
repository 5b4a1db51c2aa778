use Rattle.blaze_table.proofs.Words.{if_err, ◌<ℤ◌, Some, subst, arith, ints, slice_get, IsSomeAnd, IsRangeCloned, CountedEntries, IsKeyTaken}
use Rattle.blaze_table.proofs.Cuts.CutEdits.{key_fits, key_cut}
use Rattle.blaze_table.proofs.Cuts.Ends.{first_among, first_has}
use Rattle.blaze_table.proofs.Cuts.Fronts.{first_key}
use Rattle.blaze_table.proofs.cut.cut_first.Goals as goal

pub returns-in_err-first-clause-refused : goal.returns-in_err-first-clause-refused
returns-in_err-first-clause-refused g c =
    if_err c.from_residual.result (first_among g.V.PartialEq.eq g.met.V.Eq.laws g.T.Integer.low g.T.Integer.high c.args.entries.now.entries c.in_hand.ensures c.requires.table.canonical c.in_err-first.ensures.refused)

pub returns-in_err-value-in-Some-clause-refused : goal.returns-in_err-value-in-Some-clause-refused
returns-in_err-value-in-Some-clause-refused g c =
    if_err c.from_residual-in_err-value-in-Some.result (first_among g.V.PartialEq.eq g.met.V.Eq.laws g.T.Integer.low g.T.Integer.high c.args.entries.now.entries c.in_hand.ensures c.requires.table.canonical
    (subst (λ (s : CountedEntries g.row.V.Denot). IsSomeAnd (slice_get s.entries 0) (λ e. e.lo <ℤ e.hi)) c.first_range_cloned.ensures.looked c.in_err-value-in-Some.ensures.refused))

pub minus-new_len-requires : goal.minus-new_len-requires
minus-new_len-requires g c = record {
  enough =
      let rank = g.T.Integer.rank in
      let eq = g.V.PartialEq.eq in
      let low = g.T.Integer.low in
      let high = g.T.Integer.high in
      let es = c.args.entries.now.entries in
      let canonical = c.requires.table.canonical in
      let h = first_has eq g.met.V.Eq.laws low high es c.in_hand.ensures canonical rank g.V.Clone.is_clone c.in-Some.entry (subst (IsRangeCloned rank g.V.Clone.is_clone (slice_get es 0)) c.in-Some.is c.in_ok-first.ensures.held) in
      omega (arith, ints, key_fits eq g.met.V.Eq.laws _ low high es c.in_hand.ensures canonical h _ c.requires.table, c.one.ensures);
}

pub returns-clause-cut : goal.returns-clause-cut
returns-clause-cut g c =
    let rank = g.T.Integer.rank in
    let eq = g.V.PartialEq.eq in
    let low = g.T.Integer.low in
    let high = g.T.Integer.high in
    let es = c.args.entries.now.entries in
    let canonical = c.requires.table.canonical in
    let looked = subst (IsRangeCloned rank g.V.Clone.is_clone (slice_get es 0)) c.in-Some.is c.in_ok-first.ensures.held in
    record {
      first = first_key rank g.V.Clone.is_clone c.in-Some.entry es looked;
      cut = key_cut eq g.met.V.Eq.laws _ low high es c.in_hand.ensures canonical (first_has eq g.met.V.Eq.laws low high es c.in_hand.ensures canonical rank g.V.Clone.is_clone c.in-Some.entry looked) _ _ _ _ c.requires.table
          (omega (arith, ints, c.minus-new_len.ensures.difference, c.one.ensures))
          (subst (λ (s : CountedEntries g.row.V.Denot). IsKeyTaken eq (rank c.in-Some.entry.start) (Some c.in_ok-value-in-Some.value) s.entries c.cut_front.new.entries.entries) c.first_range_cloned.ensures.looked c.in_ok-value-in-Some.ensures.cut);
    }
