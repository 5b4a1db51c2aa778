use Rattle.blaze_iters.proofs.Words.{Some, refl}
use Rattle.blaze_iters.proofs.Steps.{next_back_pair, keeps_last, goes_last, goes_on_last}
use Rattle.blaze_iters.proofs.iter_map.IterMapDoubleEndedIterator.next_back.Goals as goal

pub returns-in-Some-clause-steps : goal.returns-in-Some-clause-steps
returns-in-Some-clause-steps g c =
    let t = c.in-Some.ensures in
    rw (← c.self.view_is) (
    next_back_pair g.T.Integer.rank g.T.Integer.of_rank g.VC.ValueCarrier.shown c.self.inside.back g.I.SortedDisjointMap.left c.self.inside.inner c.self.inside.front _ refl (rw t.1 tt)
    (keeps_last g.T.Integer.rank g.T.Integer.of_rank g.VC.ValueCarrier.shown c.self.inside.back g.I.SortedDisjointMap.left c.self.inside.inner c.self.inside.front t.0 t.1) (Some c.in-Some.pair) c.last_pair.new.opened t)

pub returns-in-Some-clause-goes : goal.returns-in-Some-clause-goes
returns-in-Some-clause-goes g c = goes_last _ _ _ _ _ _ tt (returns-in-Some-clause-steps g c).0

pub returns-clause-steps : goal.returns-clause-steps
returns-clause-steps g c =
    let taken = c.take_last-self-inside in
    rw (← c.self.view_is, c.in_default.ensures.0) (
    next_back_pair g.T.Integer.rank g.T.Integer.of_rank g.VC.ValueCarrier.shown taken.result g.I.SortedDisjointMap.left taken.new.inner taken.new.front _ taken.ensures.left taken.ensures.none taken.ensures.opens
    c.last_pair-2.result c.last_pair-2.new.opened c.last_pair-2.ensures)

pub returns-clause-goes : goal.returns-clause-goes
returns-clause-goes g c = goes_on_last _ _ _ _ _ (returns-clause-steps g c).0
