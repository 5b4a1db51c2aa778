use Rattle.blaze_table.proofs.Fills.Ordered.{ordered_of}
use Rattle.blaze_table.proofs.table.RangeTable.iter_ending_from.Goals as goal

pub entries_ending_from-requires : goal.entries_ending_from-requires
entries_ending_from-requires g c = ordered_of g.V.PartialEq.eq c.self.inside.entries.counted.entries c.self.invariant.canonical
