use Rattle.range_map_blaze.proofs.Words.{arith, ints}
use Rattle.range_map_blaze.proofs.CutEach.{none_within}
use Rattle.range_map_blaze.proofs.map.RangeMapBlaze.within.Goals as goal

pub returns-in-Some-clause-none : goal.returns-in-Some-clause-none
returns-in-Some-clause-none g c = λ told below. let ends = c.in-Some.ensures.ranks told in absurd (omega (arith, ints, ends.0, ends.1, c.in-Some.ensures.order))

-- bounds that name no key
pub returns-clause-within : goal.returns-clause-within
returns-clause-within g c = λ told. rw c.no_entries.ensures (none_within g.V.PartialEq.eq g.met.V.Eq.laws g.T.Integer.low g.T.Integer.high _ _ c.args.self.now.entries (c.in-None.ensures.ranks told))
