use Rattle.std.proofs.Common.{◌≡◌, ap, sym, arith, w64, to_z, of_z}
use Rattle.std.proofs.lemmas.Int.{ints}
use Rattle.blaze_entries.specs.Entries.{at}
use Rattle.range_map_c.proofs.Tells.{read_entries}
use Rattle.range_map_c.proofs.FreeRanges.{held_by}
use Rattle.range_map_c.proofs.gaps.range_map_all_unchecked.Goals as goal

pub returns-clause-all : goal.returns-clause-all
returns-clause-all c =
    let es : c.args.map.now.entries ≡ c.map_or.result.now.entries = read_entries (λ s. s.entries) (λ m. m.now.map) c.as_ref.result c.args.map.now.entries c.map_or.result.now c.new-empty.result c.as_ref.ensures.map c.map_or.ensures
    (ap (λ s. s.entries) c.new-empty.ensures) in
    let lo : to_z w64 (of_z w64 c.args.lo) ≡ c.args.lo = omega (arith, ints) in
    let hi : to_z w64 (of_z w64 c.args.hi) ≡ c.args.hi = omega (arith, ints) in
    held_by (at c.args.map.now.entries) c.args.lo c.args.hi c.is_none.result c.first_gap.result c.is_none.ensures (rw (lo, hi, sym es) at c.first_gap.ensures)
