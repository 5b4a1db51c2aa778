use Rattle.blaze_table.proofs.Words.{arith, ints, some_keys}
use Rattle.blaze_table.proofs.table.split.count_parts.Goals as goal

pub count-below_len-requires-clause-fits : goal.count-below_len-requires-clause-fits
count-below_len-requires-clause-fits g c = omega (arith, ints, c.requires.counted, c.length_in_hand.ensures, some_keys g.V.PartialEq.eq c.args.from.now.counted.entries c.requires.from)

pub minus-requires : goal.minus-requires
minus-requires g c = record {
  enough = omega (arith, ints, c.requires.counted, c.count-below_len.ensures, some_keys g.V.PartialEq.eq c.args.from.now.counted.entries c.requires.from);
}

pub count-from_len-requires-clause-fits : goal.count-from_len-requires-clause-fits
count-from_len-requires-clause-fits g c = omega (arith, ints, c.requires.counted, c.length_in_hand.ensures, some_keys g.V.PartialEq.eq c.args.below.now.counted.entries c.requires.below)

pub minus-requires-else-len : goal.minus-requires-else-len
minus-requires-else-len g c = record {
  enough = omega (arith, ints, c.requires.counted, c.count-from_len.ensures, some_keys g.V.PartialEq.eq c.args.below.now.counted.entries c.requires.below);
}
