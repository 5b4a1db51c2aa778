use Rattle.blaze_int.proofs.Naturals.{by_less}
use Rattle.std.proofs.Common.{◌≡◌, ℕ, suc, ◌-◌, pos, ◌≤ℤ◌, ◌<ℤ◌, slice_index_or, subst, refl, arith}
use borrow.Author.Count.{below_more}
use Rattle.std.proofs.lemmas.Int.{ints}
use Rattle.range_map_c.proofs.InOrder.{rows_apart, rows_ordered}
use Rattle.range_map_c.proofs.table_order.range_table_is_ordered_unchecked.Goals as goal
use Rattle.range_map_c.proofs.table_order.range_table_is_ordered_unchecked.Goals.{else-i-gt0-via-then-i-gt0+else-lo-i, else-i-gt0-via-else-i-gt0}

pub returns-then-hi-i : goal.returns-then-hi-i
returns-then-hi-i c =
    let fault : slice_index_or c.args.hi.now c.loop-i.i (pos 0) <ℤ slice_index_or c.args.lo.now c.loop-i.i (pos 0) = grind (arith, ints) in
    record { ordered = (λ t. absurd (cc), λ o. let a = (rows_apart _ _ _ c.requires.his c.requires.values o).full c.loop-i.i (omega arith) in absurd (omega (arith, ints))) }

pub returns-then-lo-i : goal.returns-then-lo-i
returns-then-lo-i c =
    let fault : slice_index_or c.args.lo.now c.loop-i.i (pos 0) ≤ℤ slice_index_or c.args.hi.now (c.loop-i.i - 1) (pos 0) = grind (arith, ints) in
    record {
      ordered = (
        λ t. absurd (cc),
        λ o.
            let a = (rows_apart _ _ _ c.requires.his c.requires.values o).apart (c.loop-i.i - 1) c.loop-i.i (omega arith) (omega arith) in absurd (omega (arith, ints)),
      );
    }

pub loop-i-preserved : goal.loop-i-preserved
loop-i-preserved c =
    let row : slice_index_or c.args.lo.now c.loop-i.i (pos 0) ≤ℤ slice_index_or c.args.hi.now c.loop-i.i (pos 0) = grind (arith, ints) in
    let step : (j : ℕ) → c.loop-i.i ≡ suc j → slice_index_or c.args.hi.now j (pos 0) <ℤ slice_index_or c.args.lo.now (suc j) (pos 0) = elim c.else-i-gt0.branch [
      | else-i-gt0-via-then-i-gt0+else-lo-i w ↦ λ j e.
          let fact : slice_index_or c.args.hi.now (c.loop-i.i - 1) (pos 0) <ℤ slice_index_or c.args.lo.now c.loop-i.i (pos 0) = grind (arith, ints, w.if-lo-i.false) in
          let before : c.loop-i.i - 1 ≡ j = omega arith in
          subst (λ (n : ℕ). slice_index_or c.args.hi.now j (pos 0) <ℤ slice_index_or c.args.lo.now n (pos 0)) e
          (subst (λ (n : ℕ). slice_index_or c.args.hi.now n (pos 0) <ℤ slice_index_or c.args.lo.now c.loop-i.i (pos 0)) before fact)
      | else-i-gt0-via-else-i-gt0 w ↦ λ j e. absurd (omega (arith, w.if-i-gt0.false))
    ] in (
      below_more (λ j. slice_index_or c.args.lo.now j (pos 0) ≤ℤ slice_index_or c.args.hi.now j (pos 0)) c.loop-i.i c.loop-i.invariant.0 row,
      λ j lt. by_less (suc j) c.loop-i.i (λ less. c.loop-i.invariant.1 j less) (λ not. step j (omega arith)),
    )

pub returns : goal.returns
returns c =
    record { ordered = (λ _. rows_ordered _ _ _ c.requires.his c.requires.values (λ j lt. c.loop-i.invariant.0 j (omega arith)) (λ j lt. c.loop-i.invariant.1 j (omega arith)), λ _. refl) }
