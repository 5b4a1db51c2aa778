use Rattle.std.specs.Prelude.{nat_eq}
use Rattle.std.specs.Cmp.{nat_eq_equiv}
use Rattle.std.specs.Range.{range_inclusive_end}
use Rattle.std.proofs.Common.{◌≡◌, ◌<◌, ◌∙◌, refl, ℤ, pos, ◌+ℤ◌, ◌≤ℤ◌, ◌<ℤ◌, sym, ap, subst, rules, arith, w64, to_z, of_z}
use Rattle.std.proofs.lemmas.Int.{ints}
use Rattle.blaze_entries.specs.Entries.{at}
use Rattle.blaze_entries.specs.Ending.{overlapping}
use Rattle.blaze_entries.proofs.Canonical.Runs.{canonical}
use Rattle.range_map_c.proofs.FreeRanges.{IsSearched, searched_none, found_before, nothing_after, searched_after, found_last, none_left}
use Rattle.range_map_c.proofs.gaps.first_gap.Goals as goal

pub loop-range-init : goal.loop-range-init
loop-range-init c =
    let es = c.args.map.now.entries in
    let from : ℤ = to_z w64 (of_z w64 c.args.from) in
    let to : ℤ = to_z w64 (of_z w64 c.args.to) in
    let order : from ≤ℤ to = grind (arith, ints) in
    let some : 0 < c.args.length = omega arith in
    let whole : c.overlapping-entries.result ≡ overlapping from to es =
    c.overlapping-entries.ensures.within (search rules) (search rules) ∙ ap (λ z. overlapping z (range_inclusive_end c.new.result) es) c.new.ensures.start
    ∙ ap (λ z. overlapping from z es) c.new.ensures.end in
    (tt, tt, subst (λ left. IsSearched (at es) from to c.args.length from to left) (sym whole) (searched_none nat_eq es from to c.args.length (canonical nat_eq nat_eq_equiv es c.in_hand.ensures.runs) some order))

pub returns-then-is_apart : goal.returns-then-is_apart
returns-then-is_apart c =
    let from : to_z w64 (of_z w64 c.args.from) ≡ c.args.from = omega (arith, ints) in
    let to : to_z w64 (of_z w64 c.args.to) ≡ c.args.to = omega (arith, ints) in
    let left = rw (from, to) at c.loop-range.invariant.2 in
    found_before (at c.args.map.now.entries) c.args.from c.args.to c.args.length (to_z w64 c.loop-range.first-bits) c.args.to _ _ c.loop-range.entries c.next.new.self _ left
    c.in-Some.ensures.steps.0 (search rules) refl c.if-is_apart.ensures

pub returns-then-to-end : goal.returns-then-to-end
returns-then-to-end c =
    let from : to_z w64 (of_z w64 c.args.from) ≡ c.args.from = omega (arith, ints) in
    let to : to_z w64 (of_z w64 c.args.to) ≡ c.args.to = omega (arith, ints) in
    let left = rw (from, to) at c.loop-range.invariant.2 in
    nothing_after (at c.args.map.now.entries) c.args.from c.args.to c.args.length (to_z w64 c.loop-range.first-bits) c.args.to (to_z w64 (of_z w64 c.into_inner-start.result.0))
    (to_z w64 (of_z w64 c.into_inner-start.result.1)) c.loop-range.entries c.next.new.self _ left c.in-Some.ensures.steps.0 (search rules) (search rules) c.if-is_apart.ensures (grind (arith, ints))

pub loop-range-preserved : goal.loop-range-preserved
loop-range-preserved c =
    let from : ℤ = to_z w64 (of_z w64 c.args.from) in
    let to : ℤ = to_z w64 (of_z w64 c.args.to) in
    let end : ℤ = to_z w64 (of_z w64 c.into_inner-start.result.1) in
    let under : end <ℤ to = grind (arith, ints) in
    let word : to_z w64 (of_z w64 (end +ℤ pos 1)) ≡ (end +ℤ pos 1) = omega (arith, ints) in (
      tt,
      tt,
      rw word (searched_after (at c.args.map.now.entries) from to c.args.length (to_z w64 c.loop-range.first-bits) to (to_z w64 (of_z w64 c.into_inner-start.result.0)) end c.loop-range.entries c.next.new.self _
          c.loop-range.invariant.2 c.in-Some.ensures.steps.0 (search rules) (search rules) c.if-is_apart.ensures under),
    )

pub returns-then-fits : goal.returns-then-fits
returns-then-fits c =
    let from : to_z w64 (of_z w64 c.args.from) ≡ c.args.from = omega (arith, ints) in
    let to : to_z w64 (of_z w64 c.args.to) ≡ c.args.to = omega (arith, ints) in
    let left = rw (from, to, c.in_default.ensures.steps.0.0) at c.loop-range.invariant.2 in
    found_last (at c.args.map.now.entries) c.args.from c.args.to c.args.length (to_z w64 c.loop-range.first-bits) c.args.to left (omega (arith, ints, c.if-fits.ensures))

pub returns-else-fits : goal.returns-else-fits
returns-else-fits c =
    let from : to_z w64 (of_z w64 c.args.from) ≡ c.args.from = omega (arith, ints) in
    let to : to_z w64 (of_z w64 c.args.to) ≡ c.args.to = omega (arith, ints) in
    let left = rw (from, to, c.in_default.ensures.steps.0.0) at c.loop-range.invariant.2 in
    none_left (at c.args.map.now.entries) c.args.from c.args.to c.args.length (to_z w64 c.loop-range.first-bits) c.args.to left (omega (arith, ints, c.if-fits.ensures))
