use Rattle.std.proofs.Common.{◌≡◌, ℕ, ℤ, pos, take, slice_index_or, refl, arith, w64, to_z, of_z}
use Rattle.std.proofs.lemmas.Int.{ints}
use Rattle.blaze_entries.specs.Entries.{entry}
use Rattle.range_map_c.specs.Tables.{rows}
use Rattle.range_map_c.proofs.Parts.{rows_next}
use Rattle.range_map_c.proofs.Unchanged.{more_inside, row_inside}
use Rattle.range_map_c.proofs.inside.are_rows_inside.Goals as goal

pub returns-then-not-is_inside : goal.returns-then-not-is_inside
returns-then-not-is_inside c =
    let l : ℤ = slice_index_or c.args.lo.now c.loop-i.i (pos 0) in
    let h : ℤ = slice_index_or c.args.hi.now c.loop-i.i (pos 0) in
    let start : to_z w64 (of_z w64 l) ≡ l = omega (arith, ints) in
    let end : to_z w64 (of_z w64 h) ≡ h = omega (arith, ints) in (
      λ t. absurd (cc),
      λ all.
          c.if-not-is_inside.ensures.1
          (rw start (rw end (row_inside c.args.map.now.entries c.loop-i.i c.args.lo.now c.args.hi.now c.args.value.now (pos 0) (pos 0) 0 c.requires.his c.requires.values (omega arith) all))),
    )

pub loop-i-preserved : goal.loop-i-preserved
loop-i-preserved c =
    let l : ℤ = slice_index_or c.args.lo.now c.loop-i.i (pos 0) in
    let h : ℤ = slice_index_or c.args.hi.now c.loop-i.i (pos 0) in
    let v : ℕ = slice_index_or c.args.value.now c.loop-i.i 0 in
    let start : to_z w64 (of_z w64 l) ≡ l = omega (arith, ints) in
    let end : to_z w64 (of_z w64 h) ≡ h = omega (arith, ints) in
    rw (rows_next c.loop-i.i c.args.lo.now c.args.hi.now c.args.value.now (pos 0) (pos 0) 0 c.requires.his c.requires.values (omega arith))
    (more_inside c.args.map.now.entries (rows (take c.loop-i.i c.args.lo.now) (take c.loop-i.i c.args.hi.now) (take c.loop-i.i c.args.value.now)) (entry l h v) c.loop-i.invariant
    (rw (start, end) at c.if-not-is_inside.ensures.0 refl))
