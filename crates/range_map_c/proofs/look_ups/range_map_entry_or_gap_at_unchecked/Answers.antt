use Rattle.std.proofs.Common.{◌≡◌, refl, ap, arith, w64, to_z, of_z}
use Rattle.std.proofs.lemmas.Int.{ints}
use Rattle.range_map_c.proofs.Tells.{gap_told, read_entries}
use Rattle.range_map_c.proofs.look_ups.range_map_entry_or_gap_at_unchecked.Goals as goal

pub returns-clause-piece : goal.returns-clause-piece
returns-clause-piece c =
    let es : c.args.map.now.entries ≡ c.map_or.result.now.entries = read_entries (λ s. s.entries) (λ m. m.now.map) c.as_ref.result c.args.map.now.entries c.map_or.result.now c.new-empty.result c.as_ref.ensures.map c.map_or.ensures
    (ap (λ s. s.entries) c.new-empty.ensures) in
    rw es (let gap = gap_told c.piece_at-start.result.2 _ c.map_or.result.now.entries c.args.key (to_z w64 (of_z w64 c.args.key)) (to_z w64 (of_z w64 c.piece_at-start.result.0)) c.piece_at-start.result.0
    (to_z w64 (of_z w64 c.piece_at-start.result.1)) c.piece_at-start.result.1 c.in-None.is c.piece_at-start.ensures (omega (arith, ints)) (omega (arith, ints)) (omega (arith, ints)) in
    (gap.0, gap.1, refl))
