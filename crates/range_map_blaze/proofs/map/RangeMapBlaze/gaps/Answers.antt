use Rattle.std.proofs.Common.{rules}
use Rattle.range_map_blaze.proofs.Told.{gaps_free, gaps_taken, gaps_outside}
use Rattle.range_map_blaze.proofs.map.RangeMapBlaze.gaps.Goals as goal

pub returns-in-Some-clause-within : goal.returns-in-Some-clause-within
returns-in-Some-clause-within g c = search rules

pub returns-in-Some-clause-free : goal.returns-in-Some-clause-free
returns-in-Some-clause-free g c = λ told. gaps_free g.T.Integer.low g.T.Integer.high _ _ c.args.self.now.entries _ (returns-in-Some-clause-within g c told)

pub returns-in-Some-clause-taken : goal.returns-in-Some-clause-taken
returns-in-Some-clause-taken g c = λ told. gaps_taken g.T.Integer.low g.T.Integer.high _ _ c.args.self.now.entries _ (returns-in-Some-clause-within g c told)

pub returns-in-Some-clause-outside : goal.returns-in-Some-clause-outside
returns-in-Some-clause-outside g c = λ told. gaps_outside g.T.Integer.low g.T.Integer.high _ _ c.args.self.now.entries _ (returns-in-Some-clause-within g c told)
