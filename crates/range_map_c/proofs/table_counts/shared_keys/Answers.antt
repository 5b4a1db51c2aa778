use Rattle.std.proofs.Common.{◌≡◌, ◌-ℤ◌, ◌≤ℤ◌, unsigned_abs, ap, ◌∙◌, arith, w64, to_z, of_z}
use Rattle.std.specs.Int.{int_max, int_min}
use Rattle.std.proofs.lemmas.Int.{ints}
use Rattle.range_map_c.proofs.Covered.{counted_shared}
use Rattle.range_map_c.proofs.table_counts.shared_keys.Goals as goal

pub returns-clause-keys : goal.returns-clause-keys
returns-clause-keys c =
    let first : to_z w64 (of_z w64 c.args.first) ≡ c.args.first = omega (arith, ints) in
    let last : to_z w64 (of_z w64 c.args.last) ≡ c.args.last = omega (arith, ints) in
    let start : to_z w64 (of_z w64 c.args.start) ≡ c.args.start = omega (arith, ints) in
    let end : to_z w64 (of_z w64 c.args.end) ≡ c.args.end = omega (arith, ints) in
    let from : c.max-from.result ≡ int_max c.args.first c.args.start = c.max-from.ensures.value ∙ ap (λ z. int_max z (to_z w64 (of_z w64 c.args.start))) first ∙ ap (λ z. int_max c.args.first z) start in
    let to : c.min-to.result ≡ int_min c.args.last c.args.end = c.min-to.ensures.value ∙ ap (λ z. int_min z (to_z w64 (of_z w64 c.args.end))) last ∙ ap (λ z. int_min c.args.last z) end in
    let full : c.max-from.result ≤ℤ c.min-to.result = grind (arith, ints) in
    let least : to_z w64 (of_z w64 c.max-from.result) ≡ c.max-from.result = omega (arith, ints) in
    let greatest : to_z w64 (of_z w64 c.min-to.result) ≡ c.min-to.result = omega (arith, ints) in
    counted_shared c.args.first c.args.last c.args.start c.args.end c.max-from.result c.min-to.result from to c.from.result full
    (c.from.ensures ∙ c.abs_diff.ensures ∙ ap (λ z. unsigned_abs (z -ℤ to_z w64 (of_z w64 c.max-from.result))) greatest ∙ ap (λ z. unsigned_abs (c.min-to.result -ℤ z)) least)
