use Rattle.blaze_table.proofs.Words.{common_steps, ap, subst, arith, IsCanonical, keys_in, shown_list, some_keys, one_fits, one_more, from_index}
use Rattle.blaze_table.proofs.count.count_list.Goals as goal

pub plus-sum-requires : goal.plus-sum-requires
plus-sum-requires g c = record {
  fits =
      let i = c.loop-start.invariant in
      let here = ap (shown_list g.T.Integer.rank) (from_index c.args.entries.now c.loop-start.start-index c.loop-start-item.result c.loop-start-test.true c.loop-start-item.is) in
      let canonical = subst (IsCanonical g.V.PartialEq.eq) here i.0 in
      one_fits _ _ _ _ _ _ _ _ i.1 (ap keys_in here) (some_keys g.V.PartialEq.eq _ canonical.2) c.requires.fits c.length.ensures;
}

pub loop-start-preserved : goal.loop-start-preserved
loop-start-preserved g c =
    let i = c.loop-start.invariant in
    let here = ap (shown_list g.T.Integer.rank) (from_index c.args.entries.now c.loop-start.start-index c.loop-start-item.result c.loop-start-test.true c.loop-start-item.is) in
    let canonical = subst (IsCanonical g.V.PartialEq.eq) here i.0 in
    (canonical.2, one_more _ _ _ _ _ _ _ _ i.1 (ap keys_in here) c.length.ensures c.plus-sum.ensures)

pub length-requires : goal.length-requires
length-requires g c = record {
  order = grind (arith, common_steps);
}

pub returns : goal.returns
returns g c = grind (arith, common_steps)
