use Rattle.std.proofs.Common.{rules}
use Rattle.range_map_blaze.proofs.Words.{◌∙◌, sym, arith, ints, overlap_clear}
use Rattle.range_map_blaze.proofs.map.RangeMapBlaze.overlapping.Goals as goal

pub returns-in-Some-clause-within : goal.returns-in-Some-clause-within
returns-in-Some-clause-within g c = search rules

pub returns-in-Some-clause-free : goal.returns-in-Some-clause-free
returns-in-Some-clause-free g c = λ told none k from to.
    overlap_clear _ _ k c.args.self.now.entries from to (sym (returns-in-Some-clause-within g c told (omega (arith, ints, from, to))) ∙ none)

pub returns-clause-free : goal.returns-clause-free
returns-clause-free g c = λ told none k from to. absurd (omega (arith, ints, c.in-None.ensures.ranks told, from, to))
