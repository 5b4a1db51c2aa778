use Rattle.std.proofs.Common.{◌≡◌, ◌-◌, pos, ◌<ℤ◌, slice_index_or, sym, subst, arith}
use Rattle.std.proofs.lemmas.Int.{ints}
use Rattle.range_map_c.proofs.InOrder.{rank_of_key, sorted, rows_apart, below_all, none_at, value_at, gap_at}
use Rattle.range_map_c.proofs.table_look_ups.range_table_get_unchecked.Goals as goal

pub rank-n-requires : goal.rank-n-requires
rank-n-requires c = sorted _ _ (rows_apart _ _ _ c.requires.his c.requires.values c.requires.ordered)

pub returns-then-n-eq0-clause-value : goal.returns-then-n-eq0-clause-value
returns-then-n-eq0-clause-value c =
    let rank = rank_of_key _ _ _ c.ranges.key c.rank-n.ensures in
    (sym (none_at _ _ _ c.requires.his c.requires.values c.args.key 0 (λ i lt. absurd (omega arith)) (λ i le lt. rank.after i (omega arith) lt)))

pub returns-then-key-hi-clause-value : goal.returns-then-key-hi-clause-value
returns-then-key-hi-clause-value c =
    let rank = rank_of_key _ _ _ c.ranges.key c.rank-n.ensures in
    (sym (value_at _ _ _ c.requires.his c.requires.values c.requires.ordered c.args.key (c.rank-n.result - 1) (omega arith)
    (rank.before (c.rank-n.result - 1) (omega arith)) (grind (arith, ints))))

pub returns-clause-value : goal.returns-clause-value
returns-clause-value c =
    let rank = rank_of_key _ _ _ c.ranges.key c.rank-n.ensures in
    let past : slice_index_or c.args.hi.now (c.rank-n.result - 1) (pos 0) <ℤ c.args.key = grind (arith, ints) in
    let below = below_all _ _ (rows_apart _ _ _ c.requires.his c.requires.values c.requires.ordered) c.args.key c.rank-n.result rank
    (λ i e. let same : c.rank-n.result - 1 ≡ i = omega arith in subst (λ j. slice_index_or c.args.hi.now j (pos 0) <ℤ c.args.key) same past) in
    (sym (gap_at _ _ _ c.requires.his c.requires.values c.requires.ordered c.args.key c.rank-n.result below (λ lt. rank.after c.rank-n.result (omega arith) lt)))
