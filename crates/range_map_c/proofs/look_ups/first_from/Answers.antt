use Rattle.std.specs.Cmp.{nat_eq_equiv}
use Rattle.std.specs.Prelude.{nat_eq}
use Rattle.std.specs.Range.{range_inclusive_start}
use Rattle.std.proofs.Common.{◌≡◌, ◌∙◌, Some, ap, arith, w64, to_z, of_z}
use Rattle.std.proofs.lemmas.Int.{ints}
use Rattle.blaze_entries.specs.Entries.{entry}
use Rattle.blaze_entries.specs.Ending.{overlapping}
use Rattle.blaze_entries.proofs.Canonical.Runs.{canonical}
use Rattle.range_map_c.specs.Handle.{least_key, greatest_key}
use Rattle.range_map_c.specs.Told.{first_of}
use Rattle.range_map_c.proofs.Within.{first_is}
use Rattle.range_map_c.proofs.look_ups.first_from.Goals as goal

pub returns-in-Some : goal.returns-in-Some
returns-in-Some c =
    let es = c.args.map.now.entries in
    let key : to_z w64 (of_z w64 c.args.key) ≡ c.args.key = omega (arith, ints) in
    let start : to_z w64 (of_z w64 c.into_inner-start.result.0) ≡ c.into_inner-start.result.0 = omega (arith, ints) in
    let end : to_z w64 (of_z w64 c.into_inner-start.result.1) ≡ c.into_inner-start.result.1 = omega (arith, ints) in
    ap (λ l. Some (entry l (to_z w64 (of_z w64 c.into_inner-start.result.1)) c.in-Some.value.now)) (start ∙ c.into_inner-start.ensures.start)
    ∙ ap (λ h. Some (entry (range_inclusive_start c.in-Some.range) h c.in-Some.value.now)) (end ∙ c.into_inner-start.ensures.end) ∙ c.in-Some.ensures.entry
    ∙ first_is nat_eq least_key (to_z w64 (of_z w64 c.args.key)) greatest_key es (canonical nat_eq nat_eq_equiv es c.in_hand.ensures.runs) c.in_hand.ensures.keys ∙ ap (λ k. first_of (overlapping k greatest_key es)) key

pub returns-in-None : goal.returns-in-None
returns-in-None c =
    let es = c.args.map.now.entries in
    let key : to_z w64 (of_z w64 c.args.key) ≡ c.args.key = omega (arith, ints) in
    c.in-None.ensures.entry ∙ first_is nat_eq least_key (to_z w64 (of_z w64 c.args.key)) greatest_key es (canonical nat_eq nat_eq_equiv es c.in_hand.ensures.runs) c.in_hand.ensures.keys
    ∙ ap (λ k. first_of (overlapping k greatest_key es)) key
