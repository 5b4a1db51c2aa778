use Rattle.range_map_blaze.proofs.Words.{IfOk-weaker}
use Rattle.range_map_blaze.proofs.make.map_of_borrowed.Goals as goal

pub returns : goal.returns
returns g c =
    let pairs = c.in_ok-pairs.ensures in
    IfOk-weaker c.map_of_borrowed_pairs.result _ _ (λ new made. ((pairs.0, pairs.1, pairs.2, pairs.3, rw pairs.4 at made.0), made.1)) c.map_of_borrowed_pairs.ensures
