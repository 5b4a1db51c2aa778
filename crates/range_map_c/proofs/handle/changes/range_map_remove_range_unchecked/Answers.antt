use Rattle.std.proofs.Common.{◌∙◌, ap, sym}
use Rattle.blaze_entries.specs.Count.{keys_in}
use Rattle.range_map_c.proofs.Tells.{differs_by}
use Rattle.range_map_c.proofs.handle.changes.range_map_remove_range_unchecked.Goals as goal

pub returns-in-Ok-clause-changed : goal.returns-in-Ok-clause-changed
returns-in-Ok-clause-changed c = differs_by c.len-after.result c.len-before.result _ _ c.len-after.ensures.lengths (c.len-before.ensures.lengths ∙ ap keys_in (sym c.in-Some.ensures.map))
