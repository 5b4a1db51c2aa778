use Rattle.blaze_int.proofs.Options.{if_err}
use Rattle.std.specs.Prelude.{nat_eq}
use Rattle.std.specs.Range.{range_inclusive_start, range_inclusive_end}
use Rattle.std.proofs.Common.{◌≡◌, ◌∙◌, ℕ, ℤ, pos, take, slice_index_or, subst, rules, arith}
use Rattle.std.proofs.lemmas.Int.{ints}
use Rattle.blaze_entries.specs.Entries.{entry}
use Rattle.blaze_entries.specs.Painted.{IsPainted}
use Rattle.range_map_c.specs.Handle.{least_key, greatest_key}
use Rattle.range_map_c.specs.Tables.{rows}
use Rattle.range_map_c.proofs.Parts.{none_painted, more_painted, rows_next, part_of}
use Rattle.range_map_c.proofs.handle.bulk.paint_rows.Goals as goal

pub loop-i-init : goal.loop-i-init
loop-i-init c = none_painted c.args.map.now.entries c.in_hand.ensures

pub loop-i-preserved : goal.loop-i-preserved
loop-i-preserved c =
    let l : ℤ = slice_index_or c.args.lo.now c.loop-i.i (pos 0) in
    let h : ℤ = slice_index_or c.args.hi.now c.loop-i.i (pos 0) in
    let v : ℕ = slice_index_or c.args.value.now c.loop-i.i 0 in
    let start : range_inclusive_start c.new.result ≡ l = c.new.ensures.start ∙ omega (arith, ints) in
    let end : range_inclusive_end c.new.result ≡ h = c.new.ensures.end ∙ omega (arith, ints) in
    let one = c.in_ok-ranges_insert.ensures.ok (search rules) in
    let here = subst (λ z. IsPainted nat_eq least_key greatest_key (entry l z v) c.loop-i.map.entries c.ranges_insert.new.self.entries) end
    (subst (λ z. IsPainted nat_eq least_key greatest_key (entry z (range_inclusive_end c.new.result) v) c.loop-i.map.entries c.ranges_insert.new.self.entries) start one) in
    rw (rows_next c.loop-i.i c.args.lo.now c.args.hi.now c.args.value.now (pos 0) (pos 0) 0 c.requires.his c.requires.values (omega arith))
    (more_painted (rows (take c.loop-i.i c.args.lo.now) (take c.loop-i.i c.args.hi.now) (take c.loop-i.i c.args.value.now)) c.args.map.now.entries c.loop-i.map.entries c.ranges_insert.new.self.entries l h v
    c.loop-i.invariant here)

pub returns-in_err-ranges_insert-clause-err : goal.returns-in_err-ranges_insert-clause-err
returns-in_err-ranges_insert-clause-err c = if_err c.from_residual.result (rw c.in_err-ranges_insert.ensures.err.same
    (part_of c.loop-i.i c.args.lo.now c.args.hi.now c.args.value.now c.args.map.now.entries c.loop-i.map.entries c.requires.his c.requires.values c.loop-i.invariant))
