use Rattle.blaze_table.proofs.Words.{common_steps, arith, subst, shown_list, IsSetOf}
use Rattle.blaze_table.proofs.Pairs.KeySets.{set_of}
use Rattle.blaze_table.proofs.set.range_set.RangeSetBlaze.from_ranges.Goals as goal

pub returns : goal.returns
returns g c =
    let it = c.into_iter-range-iterator in
    let rank = g.T.Integer.rank in
    let low = g.T.Integer.low in
    let high = g.T.Integer.high in
    let entries = shown_list rank c.in_ok-entries.entries.items in (
      it.result,
      c.loop-range.yielded,
      it.ensures.into_iter_gives,
      (c.next.new.self, (c.loop-range.range-iterator, c.loop-range.yielded_by, c.in-None.ensures.steps)),
      rw c.in_ok-table.ensures (subst (λ ranges. IsSetOf low high ranges entries) c.loop-range.invariant (set_of low high (shown_list rank c.loop-range.pairs.items) entries c.in_ok-entries.ensures)),
    )

pub loop-range-preserved : goal.loop-range-preserved
loop-range-preserved g c = grind (arith, common_steps)
