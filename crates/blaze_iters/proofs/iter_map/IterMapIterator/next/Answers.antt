use Rattle.blaze_iters.proofs.Words.{Some, refl}
use Rattle.blaze_iters.proofs.Steps.{next_pair, keeps_first, goes_first, goes_on_first}
use Rattle.blaze_iters.proofs.iter_map.IterMapIterator.next.Goals as goal

pub returns-in-Some-clause-steps : goal.returns-in-Some-clause-steps
returns-in-Some-clause-steps g c =
    let t = c.in-Some.ensures in
    rw (← c.self.view_is) (
    next_pair g.T.Integer.rank g.T.Integer.of_rank g.VC.ValueCarrier.shown c.self.inside.front g.I.SortedDisjointMap.left c.self.inside.inner c.self.inside.back _ refl (rw t.1 tt)
    (keeps_first g.T.Integer.rank g.T.Integer.of_rank g.VC.ValueCarrier.shown c.self.inside.front g.I.SortedDisjointMap.left c.self.inside.inner c.self.inside.back t.0 t.1) (Some c.in-Some.pair) c.first_pair.new.opened t)

pub returns-in-Some-clause-goes : goal.returns-in-Some-clause-goes
returns-in-Some-clause-goes g c = goes_first _ _ _ _ _ _ tt (returns-in-Some-clause-steps g c).0

pub returns-clause-steps : goal.returns-clause-steps
returns-clause-steps g c =
    let taken = c.take_first-self-inside in
    rw (← c.self.view_is, c.in_default.ensures.0) (
    next_pair g.T.Integer.rank g.T.Integer.of_rank g.VC.ValueCarrier.shown taken.result g.I.SortedDisjointMap.left taken.new.inner taken.new.back _ taken.ensures.left taken.ensures.none taken.ensures.opens
    c.first_pair-2.result c.first_pair-2.new.opened c.first_pair-2.ensures)

pub returns-clause-goes : goal.returns-clause-goes
returns-clause-goes g c = goes_on_first _ _ _ _ _ (returns-clause-steps g c).0
