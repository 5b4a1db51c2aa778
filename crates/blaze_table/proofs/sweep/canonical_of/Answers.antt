use Rattle.std.proofs.lemmas.Result.{IfOk-weaker}
use Rattle.blaze_table.proofs.sweep.canonical_of.Goals as goal

pub pieces_of-requires-clause-ascending : goal.pieces_of-requires-clause-ascending
pieces_of-requires-clause-ascending g c = rw c.as_slice-3.ensures.value c.in_ok-placed.ensures.ascending

pub pieces_of-requires-clause-keys : goal.pieces_of-requires-clause-keys
pieces_of-requires-clause-keys g c = rw c.as_slice-3.ensures.value c.in_ok-placed.ensures.keys

pub returns : goal.returns
returns g c = IfOk-weaker c.entries_of_pieces.result _ _ (λ es made. made _ c.in_ok-placed.ensures.placed) c.entries_of_pieces.ensures
