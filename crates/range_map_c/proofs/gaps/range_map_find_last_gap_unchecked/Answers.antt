use Rattle.std.proofs.Common.{◌≡◌, ap, sym, arith, w64, to_z, of_z}
use Rattle.std.proofs.lemmas.Int.{ints}
use Rattle.range_map_c.proofs.Tells.{read_entries}
use Rattle.range_map_c.proofs.gaps.range_map_find_last_gap_unchecked.Goals as goal

pub returns-in-Some-clause-gap : goal.returns-in-Some-clause-gap
returns-in-Some-clause-gap c =
    let es : c.args.map.now.entries ≡ c.map_or.result.now.entries = read_entries (λ s. s.entries) (λ m. m.now.map) c.as_ref.result c.args.map.now.entries c.map_or.result.now c.new-empty.result c.as_ref.ensures.map c.map_or.ensures
    (ap (λ s. s.entries) c.new-empty.ensures) in
    let from : to_z w64 (of_z w64 c.args.from) ≡ c.args.from = omega (arith, ints) in
    let to : to_z w64 (of_z w64 c.args.to) ≡ c.args.to = omega (arith, ints) in
    let first : to_z w64 (of_z w64 c.in-Some.first) ≡ c.in-Some.first = omega (arith, ints) in
    rw first (rw (from, to, sym es) at c.in-Some.ensures)
