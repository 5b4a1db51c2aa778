use Rattle.std.specs.Prelude.{nat_eq}
use Rattle.std.specs.Cmp.{nat_eq_equiv}
use Rattle.std.specs.Range.{range_inclusive_end}
use Rattle.std.proofs.Common.{◌≡◌, ◌+◌, ◌<◌, ◌^◌, ◌∙◌, ℤ, pos, ◌+ℤ◌, ◌≤ℤ◌, sym, ap, rules, arith, w64, to_z, of_z}
use Rattle.std.proofs.lemmas.Int.{ints}
use Rattle.blaze_entries.specs.Overlap.{covered_keys}
use Rattle.blaze_entries.specs.Ending.{overlapping}
use Rattle.blaze_entries.proofs.Canonical.Runs.{canonical}
use Rattle.range_map_c.specs.Handle.{least_key, greatest_key}
use Rattle.range_map_c.proofs.Within.{covered_empty, covered_overlapping, covered_some, covered_fits, counted_next}
use Rattle.range_map_c.proofs.counts.count_within.Goals as goal

order_of : {s e l h : ℤ} → s ≡ l → e ≡ h → l ≤ℤ h → s ≤ℤ e
order_of p q w = omega (arith, ints, p, q, w)

pub returns-then-hi-lo : goal.returns-then-hi-lo
returns-then-hi-lo c = sym (covered_empty c.args.lo c.args.hi c.args.map.now.entries (grind (arith, ints)))

pub loop-range-init : goal.loop-range-init
loop-range-init c =
    let es = c.args.map.now.entries in
    let lo : ℤ = to_z w64 (of_z w64 c.args.lo) in
    let hi : ℤ = to_z w64 (of_z w64 c.args.hi) in
    let whole : c.overlapping-entries.result ≡ overlapping lo hi es =
    c.overlapping-entries.ensures.within (search rules) (order_of c.new.ensures.start c.new.ensures.end (omega (arith, ints, c.if-hi-lo.false))) ∙ ap (λ z. overlapping z (range_inclusive_end c.new.result) es) c.new.ensures.start
    ∙ ap (λ z. overlapping lo z es) c.new.ensures.end in
    let all : covered_keys lo hi c.overlapping-entries.result ≡ covered_keys lo hi es = ap (covered_keys lo hi) whole ∙ sym (covered_overlapping lo hi es) in
    (tt, tt, omega (arith, ints))

pub overflow_add-count : goal.overflow_add-count
overflow_add-count c =
    let es = c.args.map.now.entries in
    let lo : ℤ = to_z w64 (of_z w64 c.args.lo) in
    let hi : ℤ = to_z w64 (of_z w64 c.args.hi) in
    let sum : pos c.loop-range.count +ℤ covered_keys lo hi c.loop-range.entries ≡ covered_keys lo hi es = c.loop-range.invariant.2 in
    let left = covered_some lo hi c.loop-range.entries in
    let most : covered_keys lo hi es ≤ℤ pos (2 ^ 64) =
    covered_fits nat_eq least_key greatest_key lo hi es (omega (arith, ints)) (canonical nat_eq nat_eq_equiv es c.in_hand.ensures.runs) c.in_hand.ensures.keys in
    let few = c.shared_keys-count.ensures.bound in
    let small : c.loop-range.count + c.shared_keys-count.result < 2 ^ 128 = omega (arith, ints) in
    search rules

pub loop-range-preserved : goal.loop-range-preserved
loop-range-preserved c =
    let lo : ℤ = to_z w64 (of_z w64 c.args.lo) in
    let hi : ℤ = to_z w64 (of_z w64 c.args.hi) in (
      tt,
      tt,
      counted_next lo hi _ _ c.loop-range.count c.shared_keys-count.result c.loop-range.entries c.next.new.self c.args.map.now.entries _ c.loop-range.invariant.2 c.in-Some.ensures.steps.0
          (search rules) (search rules) c.shared_keys-count.ensures.keys,
    )
