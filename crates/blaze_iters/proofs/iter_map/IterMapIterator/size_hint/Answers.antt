use Rattle.blaze_iters.proofs.Words.{arith, shown_left}
use Rattle.blaze_iters.proofs.Steps.{whole_within}
use Rattle.blaze_iters.proofs.iter_map.IterMapIterator.size_hint.Goals as goal

pub returns-clause-lower : goal.returns-clause-lower
returns-clause-lower g c _ =
    let s = shown_left g.T.Integer.rank g.VC.ValueCarrier.shown c.self.inside.front c.self.inside.inner c.self.inside.back in
    let within = whole_within g.T.Integer.of_rank g.I.SortedDisjointMap.left s c.in_hand.ensures.runs.disjoint in
    rw (← c.self.view_is) (omega (arith, within, c.least_len.ensures.bound))
