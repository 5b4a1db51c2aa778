use Rattle.blaze_table.proofs.Words.{arith, ints}
use Rattle.blaze_table.proofs.Cuts.CutEdits.{has_key, key_fits, key_cut}
use Rattle.blaze_table.proofs.cut.cut_counted_key.Goals as goal

pub minus-new_len-requires : goal.minus-new_len-requires
minus-new_len-requires g c = record {
  enough =
      let eq = g.V.PartialEq.eq in
      let key = g.T.Integer.rank c.args.key in
      let es = c.args.entries.now.entries in
      let canonical = c.requires.table.canonical in
      let h = has_key eq g.met.V.Eq.laws key g.T.Integer.low g.T.Integer.high es c.in_hand.ensures canonical _ c.requires.held in
      omega (arith, ints, key_fits eq g.met.V.Eq.laws key g.T.Integer.low g.T.Integer.high es c.in_hand.ensures canonical h _ c.requires.table, c.one.ensures);
}

pub returns-clause-cut : goal.returns-clause-cut
returns-clause-cut g c =
    let eq = g.V.PartialEq.eq in
    let laws = g.met.V.Eq.laws in
    let low = g.T.Integer.low in
    let high = g.T.Integer.high in
    let key = g.T.Integer.rank c.args.key in
    let es = c.args.entries.now.entries in
    let canonical = c.requires.table.canonical in
    let h = has_key eq laws key low high es c.in_hand.ensures canonical _ c.requires.held in
    key_cut eq laws key low high es c.in_hand.ensures canonical h _ _ _ _ c.requires.table (omega (arith, ints, c.minus-new_len.ensures.difference, c.one.ensures)) c.in_ok-value.ensures.cut
