use Rattle.blaze_streams.proofs.merge.with_unit.WithUnitIterator.next.Goals as goal

pub next-requires : goal.next-requires
next-requires g c = g.met.S.SortedDisjoint.ready _

pub returns-clause-steps : goal.returns-clause-steps
returns-clause-steps g c =
    rw (c.new.ensures.start, c.new.ensures.end, c.into_inner-start.ensures.start, c.into_inner-start.ensures.end) (g.met.S.SortedDisjoint.gives _ _ _ c.in_ok-next.ensures.steps)
