use Rattle.std.proofs.Common.{◌≡◌, arith, w64, to_z, of_z}
use Rattle.std.proofs.lemmas.Int.{ints}
use Rattle.range_map_c.proofs.Unchanged.{split_above}
use Rattle.range_map_c.proofs.handle.operators.split_map.Goals as goal

pub returns-then-not-has_key_from-clause-ok : goal.returns-then-not-has_key_from-clause-ok
returns-then-not-has_key_from-clause-ok c =
    let key : to_z w64 (of_z w64 c.args.key) ≡ c.args.key = omega (arith, ints) in
    rw c.none.ensures.empty (split_above c.args.key c.args.map.now.entries c.in_hand.ensures (rw key at c.if-not-has_key_from.ensures))
