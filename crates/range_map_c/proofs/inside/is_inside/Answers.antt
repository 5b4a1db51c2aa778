use Rattle.std.specs.Range.{range_inclusive_start, range_inclusive_end}
use Rattle.std.proofs.Common.{◌≡◌, ◌∙◌, ap, sym, Some, ℕ, arith, w64, to_z, of_z}
use Rattle.std.proofs.lemmas.Int.{ints}
use Rattle.blaze_entries.specs.Entries.{Entry, entry, entry_at}
use Rattle.range_map_c.proofs.Unchanged.{inside_if_ends, inside_if_same, inside_if_found, found_end}
use Rattle.range_map_c.proofs.inside.is_inside.Goals as goal

pub returns-then-there-value : goal.returns-then-there-value
returns-then-there-value c =
    let es = c.args.map.now.entries in
    let lo : to_z w64 (of_z w64 c.args.lo) ≡ c.args.lo = omega (arith, ints) in
    let hi : to_z w64 (of_z w64 c.args.hi) ≡ c.args.hi = omega (arith, ints) in
    let e : Entry ℕ = entry (range_inclusive_start c.in-Some.range) (range_inclusive_end c.in-Some.range) c.in-Some.there.now in
    let found : entry_at es c.args.lo ≡ Some e = sym (c.in-Some.ensures.entry ∙ ap (entry_at es) lo) in
    let bounds = found_end c.args.lo es e c.in_hand.ensures.keys found in
    let end : to_z w64 (of_z w64 c.end.result.now) ≡ e.hi = ap (λ z. to_z w64 (of_z w64 z)) c.end.ensures ∙ omega (arith, ints, bounds.0, bounds.1) in
    rw hi (rw end (inside_if_ends c.args.lo c.args.hi c.args.value es c.in_hand.ensures (omega (arith, ints, c.if-hi-lo.false)) e found c.if-there-value.true))

pub returns-else-there-value : goal.returns-else-there-value
returns-else-there-value c =
    let es = c.args.map.now.entries in
    let lo : to_z w64 (of_z w64 c.args.lo) ≡ c.args.lo = omega (arith, ints) in
    let e : Entry ℕ = entry (range_inclusive_start c.in-Some.range) (range_inclusive_end c.in-Some.range) c.in-Some.there.now in
    inside_if_same c.args.lo c.args.hi c.args.value es c.in_hand.ensures (omega (arith, ints, c.if-hi-lo.false)) e (sym (c.in-Some.ensures.entry ∙ ap (entry_at es) lo)) c.if-there-value.false

pub returns-in-None : goal.returns-in-None
returns-in-None c =
    let es = c.args.map.now.entries in
    let lo : to_z w64 (of_z w64 c.args.lo) ≡ c.args.lo = omega (arith, ints) in
    inside_if_found c.args.lo c.args.hi c.args.value es c.in_hand.ensures (omega (arith, ints, c.if-hi-lo.false)) (sym (c.in-None.ensures.entry ∙ ap (entry_at es) lo))
