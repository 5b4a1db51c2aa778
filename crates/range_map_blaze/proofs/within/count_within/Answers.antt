use Rattle.range_map_blaze.proofs.Words.{◌≡◌, pos, ◌∙◌, sym, ap, subst, arith, ints, IsCanonical, keys_in, some_keys, one_fits, one_more, keys_among, canonical, cut_each, within}
use Rattle.range_map_blaze.proofs.CutEach.{cut_is_within, is_within, count_is_mapped}
use Rattle.range_map_blaze.proofs.within.count_within.Goals as goal

pub loop-first-init : goal.loop-first-init
loop-first-init g c =
    let rank = g.T.Integer.rank in
    let eq = g.V.PartialEq.eq in
    let laws = g.met.V.Eq.laws in
    let es = c.args.table.now.entries in
    let l = rank c.args.start in
    let h = rank c.args.end in
    let all = is_within eq laws g.T.Integer.low g.T.Integer.high l h es c.in_hand.ensures in
    let is = ap (cut_each l h) (c.into_iter-first-iterator.ensures.into_iter_gives ∙ c.overlapping-first-items.ensures) ∙ cut_is_within eq l h es (canonical eq laws es c.in_hand.ensures.runs) c.requires in
    (tt, tt, subst (IsCanonical eq) (sym is) (canonical eq laws _ all.range_map.runs), omega (arith, ints, c.zero-sum.ensures, ap keys_in is))

pub length-requires : goal.length-requires
length-requires g c = record {
  order =
      let rank = g.T.Integer.rank in
      let here = ap (cut_each (rank c.args.start) (rank c.args.end)) c.in-Some.ensures.steps in
      rw (c.greater.ensures, c.lesser.ensures) (subst (IsCanonical g.V.PartialEq.eq) here c.loop-first.invariant.2).0;
}

pub plus-sum-requires : goal.plus-sum-requires
plus-sum-requires g c = record {
  fits =
      let rank = g.T.Integer.rank in
      let eq = g.V.PartialEq.eq in
      let laws = g.met.V.Eq.laws in
      let i = c.loop-first.invariant in
      let here = ap (cut_each (rank c.args.start) (rank c.args.end)) c.in-Some.ensures.steps in
      let in_order = subst (IsCanonical eq) here i.2 in
      let all = (is_within eq laws g.T.Integer.low g.T.Integer.high (rank c.args.start) (rank c.args.end) c.args.table.now.entries c.in_hand.ensures).range_map in
      let bound = keys_among eq g.T.Integer.low g.T.Integer.high _ g.met.T.Integer.ranked.some_key (canonical eq laws _ all.runs) all.keys in
      one_fits _ _ _ _ _ _ _ _ i.3 (ap keys_in here) (some_keys eq _ in_order.2) (omega (arith, ints, bound, g.met.T.Integer.has_room)) (rw (c.greater.ensures, c.lesser.ensures) at c.length.ensures);
}

pub loop-first-preserved : goal.loop-first-preserved
loop-first-preserved g c =
    let rank = g.T.Integer.rank in
    let i = c.loop-first.invariant in
    let here = ap (cut_each (rank c.args.start) (rank c.args.end)) c.in-Some.ensures.steps in
    let in_order = subst (IsCanonical g.V.PartialEq.eq) here i.2 in
    (tt, tt, in_order.2, one_more _ _ _ _ _ _ _ _ i.3 (ap keys_in here) (rw (c.greater.ensures, c.lesser.ensures) at c.length.ensures) c.plus-sum.ensures)

pub returns : goal.returns
returns g c =
    let rank = g.T.Integer.rank in
    let eq = g.V.PartialEq.eq in
    let laws = g.met.V.Eq.laws in
    let low = g.T.Integer.low in
    let high = g.T.Integer.high in
    let es = c.args.table.now.entries in
    let l = rank c.args.start in
    let h = rank c.args.end in
    let n = g.T.SafeLen.SafeLength.number c.loop-first.sum in
    let all : pos n ≡ keys_in (within l h es) =
    omega (arith, ints, c.loop-first.invariant.3, ap (λ left. keys_in (cut_each l h left)) c.in-None.ensures.steps.0) in
    record {
      mapped = count_is_mapped eq laws low high l h es c.in_hand.ensures c.requires n all;
      lengths = (within l h es, is_within eq laws low high l h es c.in_hand.ensures, all);
    }
