use Rattle.std.proofs.Common.{refl, ◌≡◌, ◌∙◌, sym, arith, w64, to_z, of_z}
use Rattle.std.proofs.lemmas.Int.{ints}
use Rattle.range_map_c.specs.Combined.{combined}
use Rattle.range_map_c.specs.Handle.{least_key, greatest_key}
use Rattle.range_map_c.proofs.Combining.{done_by, done_status, leaves_along, leaves_none, nothing_combined}
use Rattle.range_map_c.proofs.handle.combine.combine_all.Goals as goal

pub returns-in-Err-clause-err : goal.returns-in-Err-clause-err
returns-in-Err-clause-err c =
    nothing_combined least_key greatest_key c.args.lo c.args.hi (combined c.args.op 0 c.args.value) c.args.map.now.entries c.take_or_make.new.self.entries c.in_hand.ensures.range_map
    (c.in-Err.ensures.err ∙ c.in_hand.ensures.kept)

pub returns-clause-ok : goal.returns-clause-ok
returns-clause-ok c =
    let lo : to_z w64 (of_z w64 c.args.lo) ≡ c.args.lo = omega (arith, ints) in
    let hi : to_z w64 (of_z w64 c.args.hi) ≡ c.args.hi = omega (arith, ints) in
    rw (sym c.in_hand.ensures.kept) (rw c.set_map.ensures (rw c.in-Ok.ensures.map (rw (sym c.deref_mut.ensures.value)
    (done_by least_key greatest_key c.args.lo c.args.hi (to_z w64 (of_z w64 c.args.lo)) (to_z w64 (of_z w64 c.args.hi)) lo hi (combined c.args.op 0 c.args.value) c.deref_mut.result.now.map.entries
    c.combine-outcome.new.map.entries c.combine-outcome.result c.status_of.result c.status_of.ensures c.combine-outcome.ensures.ok))))

-- where nothing changes: there is an entry, and so a map
pub returns-in-Err-clause-steady : goal.returns-in-Err-clause-steady
returns-in-Err-clause-steady c = λ order leaves.
    absurd (leaves_none c.args.op c.args.value c.args.lo c.args.hi c.args.map.now.entries order (sym c.in_hand.ensures.kept ∙ c.in-Err.ensures.empty) leaves)

pub returns-clause-steady : goal.returns-clause-steady
returns-clause-steady c = λ order leaves.
    let lo : to_z w64 (of_z w64 c.args.lo) ≡ c.args.lo = omega (arith, ints) in
    let hi : to_z w64 (of_z w64 c.args.hi) ≡ c.args.hi = omega (arith, ints) in
    let kept = leaves_along c.args.op c.args.value 0 0 _ _ _ _ c.args.map.now.entries c.args.map.now.entries (sym lo) (sym hi) refl refl leaves in
    done_status c.combine-outcome.result c.status_of.result c.status_of.ensures
    (c.combine-outcome.ensures.steady (rw c.deref_mut.ensures.value (rw (sym c.in-Ok.ensures.map) (rw c.in_hand.ensures.kept kept))))
