use Rattle.std.specs.Cmp.{nat_eq_equiv}
use Rattle.std.specs.Prelude.{nat_eq}
use Rattle.std.proofs.Common.{sym, arith}
use Rattle.std.proofs.lemmas.Int.{ints}
use Rattle.blaze_entries.specs.Entries.{entry}
use Rattle.range_map_blaze.proofs.Paints.FilledFrom.{filled_nowhere}
use Rattle.range_map_c.specs.Handle.{least_key, greatest_key}
use Rattle.range_map_c.proofs.handle.changes.range_map_fill_unchecked.Goals as goal

pub returns-then-hi-lo-clause-ok : goal.returns-then-hi-lo-clause-ok
returns-then-hi-lo-clause-ok c = rw c.in_hand.ensures.kept
    (filled_nowhere nat_eq nat_eq_equiv least_key greatest_key (entry c.args.lo c.args.hi c.args.value) c.args.map.now.entries (grind (arith, ints)) c.in_hand.ensures.range_map)

pub returns-in-Ok-filled-clause-changed : goal.returns-in-Ok-filled-clause-changed
returns-in-Ok-filled-clause-changed c = rw c.set_map.ensures (rw c.in-Ok.ensures.map (rw (sym c.deref_mut.ensures.value) c.in-Ok-filled.ensures.changed))
