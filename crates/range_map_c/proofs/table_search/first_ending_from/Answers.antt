use Rattle.std.proofs.Common.{◌≡◌, ◌-◌, pos, ◌<ℤ◌, slice_index_or, subst, arith}
use Rattle.std.proofs.lemmas.Int.{ints}
use Rattle.range_map_c.proofs.InOrder.{rank_of_key, sorted, below_all, below_row}
use Rattle.range_map_c.proofs.table_search.first_ending_from.Goals as goal
use Rattle.range_map_c.proofs.table_search.first_ending_from.Goals.{else-n-gt0-via-then-n-gt0+else-key-hi, else-n-gt0-via-else-n-gt0}

pub rank-n-requires : goal.rank-n-requires
rank-n-requires c = sorted _ _ c.requires

pub returns-then-key-hi : goal.returns-then-key-hi
returns-then-key-hi c =
    let rank = rank_of_key _ _ _ c.ranges.key c.rank-n.ensures in
    below_row _ _ c.requires c.args.key c.rank-n.result (c.rank-n.result - 1) rank (omega arith) (grind (arith, ints))

pub returns : goal.returns
returns c =
    let rank = rank_of_key _ _ _ c.ranges.key c.rank-n.ensures in
    elim c.else-n-gt0.branch [
      | else-n-gt0-via-then-n-gt0+else-key-hi w ↦
          let past : slice_index_or c.args.hi.now (c.rank-n.result - 1) (pos 0) <ℤ c.args.key = grind (arith, ints, w.if-key-hi.false) in
          below_all _ _ c.requires c.args.key c.rank-n.result rank
          (λ i e. let same : c.rank-n.result - 1 ≡ i = omega arith in subst (λ j. slice_index_or c.args.hi.now j (pos 0) <ℤ c.args.key) same past)
      | else-n-gt0-via-else-n-gt0 w ↦ below_all _ _ c.requires c.args.key c.rank-n.result rank (λ i e. absurd (omega (arith, w.if-n-gt0.false)))
    ]
