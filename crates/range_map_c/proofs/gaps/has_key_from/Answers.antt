use Rattle.std.specs.Prelude.{nat_eq}
use Rattle.std.specs.Cmp.{nat_eq_equiv}
use Rattle.std.specs.Range.{range_inclusive_end}
use Rattle.std.proofs.Common.{◌≡◌, ◌≤ℤ◌, ℤ, ◌∙◌, ap, sym, rules, arith, w64, to_z, of_z}
use Rattle.std.proofs.lemmas.Int.{ints}
use Rattle.blaze_entries.specs.Ending.{overlapping}
use Rattle.blaze_entries.proofs.Canonical.Runs.{canonical}
use Rattle.range_map_c.proofs.Within.{no_key_from, some_key_from}
use Rattle.range_map_c.proofs.gaps.has_key_from.Goals as goal

order_of : {s e l h : ℤ} → s ≡ l → e ≡ h → l ≤ℤ h → s ≤ℤ e
order_of p q w = omega (arith, ints, p, q, w)

pub returns-then-hi-lo : goal.returns-then-hi-lo
returns-then-hi-lo c = λ k u w. absurd (grind (arith, ints))

pub returns-in-Some : goal.returns-in-Some
returns-in-Some c =
    let es = c.args.map.now.entries in
    let lo : to_z w64 (of_z w64 c.args.lo) ≡ c.args.lo = omega (arith, ints) in
    let hi : to_z w64 (of_z w64 c.args.hi) ≡ c.args.hi = omega (arith, ints) in
    let whole : c.overlapping.result ≡ overlapping c.args.lo c.args.hi es =
    c.overlapping.ensures.within (search rules) (order_of c.new.ensures.start c.new.ensures.end (omega (arith, ints, c.if-hi-lo.false))) ∙ ap (λ z. overlapping z (range_inclusive_end c.new.result) es) (c.new.ensures.start ∙ lo)
    ∙ ap (λ z. overlapping c.args.lo z es) (c.new.ensures.end ∙ hi) in
    some_key_from nat_eq c.args.lo c.args.hi es c.next.new.self _ (canonical nat_eq nat_eq_equiv es c.in_hand.ensures.runs) (grind (arith, ints)) (sym whole ∙ c.in-Some.ensures.steps.0)

pub returns-in-None : goal.returns-in-None
returns-in-None c =
    let es = c.args.map.now.entries in
    let lo : to_z w64 (of_z w64 c.args.lo) ≡ c.args.lo = omega (arith, ints) in
    let hi : to_z w64 (of_z w64 c.args.hi) ≡ c.args.hi = omega (arith, ints) in
    let whole : c.overlapping.result ≡ overlapping c.args.lo c.args.hi es =
    c.overlapping.ensures.within (search rules) (order_of c.new.ensures.start c.new.ensures.end (omega (arith, ints, c.if-hi-lo.false))) ∙ ap (λ z. overlapping z (range_inclusive_end c.new.result) es) (c.new.ensures.start ∙ lo)
    ∙ ap (λ z. overlapping c.args.lo z es) (c.new.ensures.end ∙ hi) in
    no_key_from c.args.lo c.args.hi es (sym whole ∙ c.in-None.ensures.steps.0.0)
