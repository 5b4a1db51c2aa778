use Rattle.range_map_multi.proofs.Words.{◌∙◌, ap}
use Rattle.range_map_multi.proofs.borrowed_maps.entries_of.Goals as goal

pub returns : goal.returns
returns g c = c.seeking_range_values.ensures ∙ ap (λ m. m.entries) c.as_borrowed.ensures ∙ g.met.M.AsMap.are_shown c.args.map.now
