use Rattle.std.proofs.Common.{refl, ◌≡◌, ◌≤◌, ◌≤ℤ◌, ◌∙◌, sym, arith, w32, w64, to_z, of_z}
use Rattle.std.proofs.lemmas.Int.{ints}
use Rattle.range_map_c.specs.Combined.{combined}
use Rattle.range_map_c.specs.Handle.{least_key, greatest_key}
use Rattle.range_map_c.proofs.Combining.{done_again, done_by, done_status, leaves_along, never_invalid, none_combined, nothing_combined, nowhere_combined, refused_again, valid_iff}
use Rattle.range_map_c.proofs.handle.combine.range_map_combine_unchecked.Goals as goal

pub returns-then-hi-lo-clause-ok : goal.returns-then-hi-lo-clause-ok
returns-then-hi-lo-clause-ok c =
    nowhere_combined least_key greatest_key c.args.lo c.args.hi (combined c.args.op c.args.place c.args.value) c.args.map.now.entries c.in_hand.new.self.entries (grind (arith, ints)) c.in_hand.ensures.range_map
    c.in_hand.ensures.kept

pub returns-then-place-eq-ALL-clause-ok : goal.returns-then-place-eq-ALL-clause-ok
returns-then-place-eq-ALL-clause-ok c =
    let lo : to_z w64 (of_z w64 c.args.lo) ≡ c.args.lo = omega (arith, ints) in
    let hi : to_z w64 (of_z w64 c.args.hi) ≡ c.args.hi = omega (arith, ints) in
    let status : to_z w32 (of_z w32 c.combine_all.result) ≡ c.combine_all.result = omega (arith, ints) in
    let place : c.args.place ≡ 0 = grind arith in
    rw status (rw place (rw (sym c.in_hand.ensures.kept)
    (done_again least_key greatest_key c.args.lo c.args.hi (to_z w64 (of_z w64 c.args.lo)) (to_z w64 (of_z w64 c.args.hi)) lo hi (combined c.args.op 0 c.args.value) c.in_hand.new.self.entries
    c.combine_all.new.map.entries c.combine_all.result c.combine_all.ensures.ok)))

pub returns-in-Some-clause-ok : goal.returns-in-Some-clause-ok
returns-in-Some-clause-ok c =
    let lo : to_z w64 (of_z w64 c.args.lo) ≡ c.args.lo = omega (arith, ints) in
    let hi : to_z w64 (of_z w64 c.args.hi) ≡ c.args.hi = omega (arith, ints) in
    rw (sym c.in_hand.ensures.kept) (rw c.in-Some.ensures.map
    (done_by least_key greatest_key c.args.lo c.args.hi (to_z w64 (of_z w64 c.args.lo)) (to_z w64 (of_z w64 c.args.hi)) lo hi (combined c.args.op c.args.place c.args.value) c.in-Some.there.now.map.entries
    c.combine.new.map.entries c.combine.result c.status_of.result c.status_of.ensures c.combine.ensures.ok))

pub returns-in-None-clause-ok : goal.returns-in-None-clause-ok
returns-in-None-clause-ok c =
    none_combined least_key greatest_key c.args.lo c.args.hi (combined c.args.op c.args.place c.args.value) c.args.map.now.entries c.in_hand.new.self.entries
    (sym c.in_hand.ensures.kept ∙ c.in-None.ensures.map) (grind arith) c.in_hand.ensures.range_map c.in_hand.ensures.kept

pub returns-then-op-gt-KEEP_OLD-clause-err : goal.returns-then-op-gt-KEEP_OLD-clause-err
returns-then-op-gt-KEEP_OLD-clause-err c =
    nothing_combined least_key greatest_key c.args.lo c.args.hi (combined c.args.op c.args.place c.args.value) c.args.map.now.entries c.in_hand.new.self.entries c.in_hand.ensures.range_map
    c.in_hand.ensures.kept

pub returns-then-place-eq-ALL-clause-invalid : goal.returns-then-place-eq-ALL-clause-invalid
returns-then-place-eq-ALL-clause-invalid c =
    let status : to_z w32 (of_z w32 c.combine_all.result) ≡ c.combine_all.result = omega (arith, ints) in
    let few : c.args.op ≤ 6 = grind arith in
    let place : c.args.place ≡ 0 = grind arith in
    rw status (valid_iff c.combine_all.result c.args.op c.args.place c.combine_all.ensures.status few (omega (arith, place)))

pub returns-then-place-eq-ALL-clause-unchanged : goal.returns-then-place-eq-ALL-clause-unchanged
returns-then-place-eq-ALL-clause-unchanged c =
    let status : to_z w32 (of_z w32 c.combine_all.result) ≡ c.combine_all.result = omega (arith, ints) in
    rw status (never_invalid c.combine_all.result c.combine_all.ensures.status)

pub returns-then-place-eq-ALL-clause-err : goal.returns-then-place-eq-ALL-clause-err
returns-then-place-eq-ALL-clause-err c =
    let lo : to_z w64 (of_z w64 c.args.lo) ≡ c.args.lo = omega (arith, ints) in
    let hi : to_z w64 (of_z w64 c.args.hi) ≡ c.args.hi = omega (arith, ints) in
    let status : to_z w32 (of_z w32 c.combine_all.result) ≡ c.combine_all.result = omega (arith, ints) in
    let place : c.args.place ≡ 0 = grind arith in
    rw status (rw place (rw (sym c.in_hand.ensures.kept)
    (refused_again least_key greatest_key c.args.lo c.args.hi (to_z w64 (of_z w64 c.args.lo)) (to_z w64 (of_z w64 c.args.hi)) lo hi (combined c.args.op 0 c.args.value) c.in_hand.new.self.entries
    c.combine_all.new.map.entries c.combine_all.result c.combine_all.ensures.err)))

pub returns-then-place-eq-ALL-clause-steady : goal.returns-then-place-eq-ALL-clause-steady
returns-then-place-eq-ALL-clause-steady c = λ few one leaves.
    let lo : to_z w64 (of_z w64 c.args.lo) ≡ c.args.lo = omega (arith, ints) in
    let hi : to_z w64 (of_z w64 c.args.hi) ≡ c.args.hi = omega (arith, ints) in
    let status : to_z w32 (of_z w32 c.combine_all.result) ≡ c.combine_all.result = omega (arith, ints) in
    let place : c.args.place ≡ 0 = grind arith in
    let order : c.args.lo ≤ℤ c.args.hi = omega (arith, ints, c.if-hi-lo.false) in
    rw status
    (c.combine_all.ensures.steady (omega (arith, ints, lo, hi, order))
    (leaves_along c.args.op c.args.value c.args.place 0 _ _ _ _ c.args.map.now.entries _ (sym lo) (sym hi) place (sym c.in_hand.ensures.kept) leaves))

pub returns-in-Some-clause-steady : goal.returns-in-Some-clause-steady
returns-in-Some-clause-steady c = λ few one leaves.
    let lo : to_z w64 (of_z w64 c.args.lo) ≡ c.args.lo = omega (arith, ints) in
    let hi : to_z w64 (of_z w64 c.args.hi) ≡ c.args.hi = omega (arith, ints) in
    done_status c.combine.result c.status_of.result c.status_of.ensures
    (c.combine.ensures.steady
    (leaves_along c.args.op c.args.value c.args.place c.args.place _ _ _ _ c.args.map.now.entries _ (sym lo) (sym hi) refl (sym c.in_hand.ensures.kept ∙ c.in-Some.ensures.map) leaves))
