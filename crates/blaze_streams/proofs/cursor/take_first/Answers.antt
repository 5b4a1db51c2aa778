use Rattle.blaze_streams.proofs.Words.{sym}
use Rattle.blaze_streams.proofs.cursor.take_first.Goals as goal

pub next-requires : goal.next-requires
next-requires g c = g.met.I.SortedDisjointMap.ready _

pub returns-clause-left : goal.returns-clause-left
returns-clause-left g c =
    rw (c.into_inner-start.ensures.start, c.into_inner-start.ensures.end) (sym (g.met.I.SortedDisjointMap.gives _ _ _ c.in_ok-range.ensures.steps))
