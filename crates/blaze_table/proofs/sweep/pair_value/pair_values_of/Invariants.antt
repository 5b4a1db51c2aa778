use Rattle.std.proofs.Common.{◌≡◌, ◌++◌, map}
use Rattle.std.specs.Vec.Iter.{into_iter_items}
use Rattle.blaze_table.specs.PairValue.{unmoved_value}
use Rattle.blaze_table.proofs.sweep.pair_value.pair_values_of.Given as goal

-- the moved values and those of the remaining pairs are all values
abbrev pub invariant-loop-pair : goal.invariant-loop-pair
invariant-loop-pair g l = l.values.items ++ map unmoved_value (into_iter_items l.pair-iterator) ≡ map unmoved_value l.fn.placed.items
