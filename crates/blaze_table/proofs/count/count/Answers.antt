use Rattle.blaze_table.proofs.Words.{subst, ap, IsCanonical, keys_in, some_keys, one_fits, one_more}
use Rattle.blaze_table.proofs.count.count.Goals as goal

pub plus-sum-requires : goal.plus-sum-requires
plus-sum-requires g c = record {
  fits =
      let i = c.loop-start.invariant in
      let here = subst (IsCanonical g.V.PartialEq.eq) c.in-Some.ensures.steps i.2 in
      one_fits _ _ _ _ _ _ _ _ i.3 (ap keys_in c.in-Some.ensures.steps) (some_keys g.V.PartialEq.eq _ here.2) c.requires.fits c.length.ensures;
}

pub loop-start-preserved : goal.loop-start-preserved
loop-start-preserved g c =
    let i = c.loop-start.invariant in
    let here = subst (IsCanonical g.V.PartialEq.eq) c.in-Some.ensures.steps i.2 in (
      tt,
      tt,
      here.2,
      one_more _ _ _ _ _ _ _ _ i.3 (ap keys_in c.in-Some.ensures.steps) c.length.ensures c.plus-sum.ensures,
    )
