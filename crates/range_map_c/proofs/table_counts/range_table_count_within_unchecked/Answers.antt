use Rattle.std.proofs.Common.{◌≡◌, ◌+◌, ◌*◌, ◌^◌, ◌%◌, ◌/◌, ◌<◌, ℤ, pos, ◌+ℤ◌, ◌<ℤ◌, length, slice_index_or, take, sym, ap, ◌∙◌, arith, w64, to_z, of_z}
use Rattle.std.proofs.lemmas.Int.{ints}
use Rattle.blaze_entries.specs.Overlap.{covered_keys, shared_count}
use Rattle.range_map_c.specs.Tables.{rows}
use Rattle.range_map_c.proofs.InOrder.{rows_apart}
use Rattle.range_map_c.proofs.Covered.{counted_begun, counted_more, counted_done}
use Rattle.range_map_c.proofs.table_counts.range_table_count_within_unchecked.Goals as goal
use Rattle.range_map_c.proofs.table_counts.range_table_count_within_unchecked.Goals.{then-loop-row-test+else-lo-row, else-loop-row-test}

pub first_ending_from-row-requires : goal.first_ending_from-row-requires
first_ending_from-row-requires c = rows_apart _ _ _ c.requires.his c.requires.values c.requires.ordered

pub loop-row-init : goal.loop-row-init
loop-row-init c =
    let w = c.first_ending_from-row.ensures.within in
    let l = c.requires.his in
    (sym (counted_begun _ _ _ c.requires.his c.requires.values _ _ _ c.first_ending_from-row.ensures), omega arith, omega arith)

pub loop-row-preserved : goal.loop-row-preserved
loop-row-preserved c =
    let start : to_z w64 (of_z w64 (slice_index_or c.args.lo.now c.loop-row.row (pos 0))) ≡ slice_index_or c.args.lo.now c.loop-row.row (pos 0) = omega (arith, ints) in
    let end : to_z w64 (of_z w64 (slice_index_or c.args.hi.now c.loop-row.row (pos 0))) ≡ slice_index_or c.args.hi.now c.loop-row.row (pos 0) = omega (arith, ints) in
    let first : ℤ = to_z w64 (of_z w64 c.args.first) in
    let last : ℤ = to_z w64 (of_z w64 c.args.last) in
    let keys : pos c.shared_keys-count.result ≡ shared_count first last (slice_index_or c.args.lo.now c.loop-row.row (pos 0)) (slice_index_or c.args.hi.now c.loop-row.row (pos 0)) =
    c.shared_keys-count.ensures.keys ∙ ap (λ z. shared_count first last z (to_z w64 (of_z w64 (slice_index_or c.args.hi.now c.loop-row.row (pos 0))))) start
    ∙ ap (λ z. shared_count first last (slice_index_or c.args.lo.now c.loop-row.row (pos 0)) z) end in
    let test : c.loop-row.row < length c.args.lo.now = c.loop-row-test.true in (
      ap (λ z. z +ℤ pos c.shared_keys-count.result) c.loop-row.invariant.0
          ∙ ap (λ z. covered_keys first last (take c.loop-row.row (rows c.args.lo.now c.args.hi.now c.args.value.now)) +ℤ z) keys
          ∙ sym (counted_more _ _ _ c.requires.his c.requires.values first last c.loop-row.row test),
      omega arith,
      omega arith,
    )

pub returns : goal.returns
returns c =
    let first : to_z w64 (of_z w64 c.args.first) ≡ c.args.first = omega (arith, ints) in
    let last : to_z w64 (of_z w64 c.args.last) ≡ c.args.last = omega (arith, ints) in
    let above : c.loop-row.row < length c.args.lo.now → c.args.last <ℤ slice_index_or c.args.lo.now c.loop-row.row (pos 0) = elim c.loop-row-test.branch [
      | then-loop-row-test+else-lo-row w ↦ λ lt. grind (arith, ints, w.if-lo-row.false)
      | else-loop-row-test w ↦ λ lt. absurd (omega (arith, w.loop-row-test.false))
    ] in
    let whole : c.loop-row.count % 2 ^ 64 + 2 ^ 64 * (c.loop-row.count / 2 ^ 64) ≡ c.loop-row.count = omega arith in
    let es = rows c.args.lo.now c.args.hi.now c.args.value.now in
    record {
      count =
          ap (λ n. pos n) whole ∙ c.loop-row.invariant.0
          ∙ ap (λ z. covered_keys z (to_z w64 (of_z w64 c.args.last)) (take c.loop-row.row es)) first
          ∙ ap (λ z. covered_keys c.args.first z (take c.loop-row.row es)) last
          ∙ counted_done _ _ _ c.requires.his c.requires.values c.args.first c.args.last c.requires.ordered c.loop-row.row above;
    }
